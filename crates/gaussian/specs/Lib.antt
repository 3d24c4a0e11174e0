-- What the contracts of `gaussian` speak of: a tape run, from its bytes to the state, the register claim, the signs, and the plain engine
-- beside it. Definitions only.
pub mod Run
pub mod Told
pub mod Claim
pub mod Signs
pub mod Beside

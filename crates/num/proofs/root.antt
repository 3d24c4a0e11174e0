-- What the proofs of the functions of `root` cite.
mod Turns
mod Tested
mod Fields
mod Cases

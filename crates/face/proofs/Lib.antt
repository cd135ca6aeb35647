-- What the proofs of the calls share.
mod Calls
mod AsProfile

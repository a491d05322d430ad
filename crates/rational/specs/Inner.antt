-- inner: what the definitions of a ratio and of how a fraction is stored need as a proof. A reader of a promise can stop above this folder.
pub mod Divisors
pub mod Lowest
pub mod Parts

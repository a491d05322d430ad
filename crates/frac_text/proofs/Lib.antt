mod Numbers
mod Parts
mod Joined
mod Decimals

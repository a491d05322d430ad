mod Built
mod NewNames
mod Numbers
mod Pages
mod Shipping

mod Capped
mod Rows
mod Agreement
mod Steps
mod Walks
mod Matches

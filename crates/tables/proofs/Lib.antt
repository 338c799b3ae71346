pub mod Tables
mod Counting
mod Checking

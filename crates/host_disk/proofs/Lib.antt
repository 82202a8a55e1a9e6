mod Written
mod Calls

mod Opening
mod Entered

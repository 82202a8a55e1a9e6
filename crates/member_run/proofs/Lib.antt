mod Growing
mod Exchanges
mod Going
mod Ending
mod Handing
mod Answers

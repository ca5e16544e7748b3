mod Spelled
mod Written
mod Answered
mod Found

mod Changing
mod Together
mod InOrder
mod Reading

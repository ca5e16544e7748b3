mod Counting
mod Each
mod Found
mod Lines
mod Made
mod Nets
mod Reported
mod Telling

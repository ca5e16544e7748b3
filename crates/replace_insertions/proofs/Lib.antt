mod GapWords
mod BlockWords
mod FilledWords
mod Insertions

mod Counting
mod Parted
mod Rows

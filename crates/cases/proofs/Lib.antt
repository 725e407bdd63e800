mod Beside
mod Counting

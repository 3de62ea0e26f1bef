mod Listed
mod Texts
mod Columns

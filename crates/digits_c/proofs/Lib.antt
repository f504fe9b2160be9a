mod FloatTexts
mod NumberTexts
mod OnWords
mod Puts
mod Read
mod Stays

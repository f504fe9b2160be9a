mod OnTexts
mod Remainders

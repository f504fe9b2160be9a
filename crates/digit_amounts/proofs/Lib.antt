pub mod Faults
pub mod Grouping
pub mod BothSides
pub mod WhatFollows
pub mod Firsts

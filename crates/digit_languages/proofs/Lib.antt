pub mod FirstZeros
pub mod Before
pub mod BothSides
pub mod WhatFollows

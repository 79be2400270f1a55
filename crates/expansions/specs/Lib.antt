-- The expansion of a bench sheet.

pub mod Laying

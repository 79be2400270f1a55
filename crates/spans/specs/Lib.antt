-- Spans of one page.

pub mod OnePage

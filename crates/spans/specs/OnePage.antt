-- A span, of a read, a program or a page erase, whose words lie in one page.
use Rattle.std.specs.Prelude.{◌+◌, ◌*◌, ◌%◌, ◌≤◌, ◌≡◌, false}
use Rattle.model.specs.Geometry.{page_bytes}
use Rattle.model.specs.Kinds.{is_bank_erase}
use Rattle.model.specs.Places.{span_start, span_words}
use Rattle.model.specs.declared.Operation.{Operation}

pub record OnePage (o : Operation) : Type 0 where
  pub span : is_bank_erase o ≡ false
  pub some : 1 ≤ span_words o
  pub inside : (span_start o).0 % page_bytes + 4 * span_words o ≤ page_bytes

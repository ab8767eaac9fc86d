-- What the marks of a refresh are made from: a header that was read off an index at hand, whose pages are below its end, and
-- room for a mark of each page below that end.
use Rattle.std.specs.Prelude.{ℕ, ◌≤◌, ◌<◌, List, ◌≡◌, length}
use Rattle.lists.specs.Scans.{Every}
use Rattle.sidefile.specs.Encode.{header_of, index_of}
use Rattle.sidefile.specs.inner.Passed.{Indexed}
use Rattle.sidefile.specs.declared.Header.{Header}

pub record Markable (header : Header) (side marks : List ℕ) : Type 0 where
  pub read : header ≡ header_of side
  pub indexed : Indexed side
  pub pages : Every (λ x. x.page.0 < header.end) (index_of side)
  pub room : header.end ≤ length marks

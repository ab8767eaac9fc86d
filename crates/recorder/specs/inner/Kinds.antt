-- The kinds of page by their numbers. No public contract cites it.
use Rattle.std.specs.Prelude.{ℕ, ◌<◌, ◌≡◌, Result, MatchResult}
use Rattle.units.specs.declared.refusal.Refusal.{Refusal}
use Rattle.units.specs.declared.refusal.Refusal.TheVariants as Reason
use Rattle.recorder.specs.declared.kinds.Kind.{Kind}
use Rattle.recorder.specs.declared.kinds.Kind.TheVariants.{Metadata, Raw}

abbrev pub number_of : Kind → ℕ
number_of Metadata = 0
number_of Raw = 1

-- the kind with this number, or a refusal of a number that no kind has
abbrev pub Names : ℕ → Result Kind Refusal → Type 0
Names n r = MatchResult r (λ kind. number_of kind ≡ n) (λ e. (e ≡ Reason.Kind) × (1 < n))

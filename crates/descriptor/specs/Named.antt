-- What a number names, if it names something.
use Rattle.std.specs.Prelude.{◌≡◌, ◌≢◌, ℕ, Option, Result, MatchResult}
use Rattle.std.specs.Option.{MatchOption}
use Rattle.descriptor.specs.declared.kinds.Unknown.{Unknown}

module _ {A : Type 0} (number : A → ℕ) (n : ℕ) where
  -- nothing has the number
  abbrev pub NamesNothing : Type 0
  NamesNothing = (x : A) → n ≢ number x

  -- what has the number, or that number, which nothing has
  abbrev pub Numbered : Result A (Unknown ℕ) → Type 0
  Numbered r = MatchResult r (λ x. n ≡ number x) (λ e. (e.0 ≡ n) × NamesNothing)

  -- what has the number, if something has
  abbrev pub NamedBy : Option A → Type 0
  NamedBy o = MatchOption o NamesNothing (λ x. n ≡ number x)

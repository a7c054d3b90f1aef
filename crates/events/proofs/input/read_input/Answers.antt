use Rattle.std.proofs.Common.{◌≡◌, ℕ, List, [], ◌++◌, take, None, Some, Option, ap, ◌∙◌, arith}
use Rattle.std.proofs.lemmas.List.{take-take}
use Rattle.std.specs.Option.{IfSome, option_map}
use Rattle.events.specs.declared.input.TheConstants.{LIMIT}
use Rattle.events.proofs.input.read_input.Goals as goal

-- known bytes up to a limit, read into an empty vector, and cut at that limit once more
first_bytes : (limit got kept : ℕ) (known : Option (List ℕ)) (old mid new : List ℕ) → old ≡ [] → new ≡ take kept mid → IfSome (option_map (take got) known) (λ xs. mid ≡ old ++ xs) → got ≡ limit → kept ≡ limit → IfSome known (λ bs. new ≡ take limit bs)
first_bytes limit got kept None old mid new empty cut read all most = tt
first_bytes limit got kept (Some bs) old mid new empty cut read all most =
    cut ∙ ap (take kept) (read ∙ ap (λ xs. xs ++ take got bs) empty) ∙ take-take kept got bs (omega arith) ∙ ap (λ n. take n bs) most

pub returns-clause-bytes : goal.returns-clause-bytes
returns-clause-bytes g c =
    rw (← c.take.ensures.inner)
    (first_bytes 16777216 _ LIMIT _ _ c.read_to_end.new.buf.items _ c.in_ok-input.ensures.items c.truncate.ensures.items c.in_ok-read_to_end.ensures.bytes (omega (arith, c.take.ensures.limit)) (omega arith))

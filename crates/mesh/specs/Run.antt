-- U32 fields one after the other, each judged by a rule (01: "Within a field: 1, then 9, then 8 or 11, then 10").
use Rattle.std.specs.Prelude.{ℕ, zero, suc, ◌+◌, ◌-◌, List, [], ◌∷◌, ◌++◌, ltb, get_or, length, replicate}
use Rattle.fields.specs.Limits.{any_number}
use Rattle.fields.specs.Numbers.{over_limit, out_of_order}
use Rattle.fields.specs.Judged.{Judged, done, on_done, refused_if}
use Rattle.fields.specs.Field.{field_at}
use Rattle.mesh.specs.declared.run.Rule.{Rule}

-- "fields on which this page sets no rule are handed out unjudged"
abbrev pub unjudged : Rule
unjudged = record { limit = any_number; least = 0; most = any_number }

-- a count: "a count above its limit" is 9
abbrev pub limited : ℕ → Rule
limited limit = record { limit = limit; least = 0; most = any_number }

-- flags, or an index: above this it is 11
abbrev pub up_to : ℕ → Rule
up_to most = record { limit = any_number; least = 0; most = most }

-- the field at `at`: at most its rule's limit (else 9), and from least to most (else 11)
unfoldable pub ruled_at : Rule → List ℕ → ℕ → Judged ℕ
ruled_at rule s at =
    on_done (field_at 4 s at) λ value.
    refused_if (ltb rule.limit value) over_limit at
    (refused_if (ltb value rule.least) out_of_order at
    (refused_if (ltb rule.most value) out_of_order at (done value)))

-- fields from `at` on, a rule for each; "the first bad one decides"
unfoldable pub run_at : List Rule → List ℕ → ℕ → Judged (List ℕ)
run_at [] s at = done []
run_at (rule ∷ rules) s at =
    on_done (ruled_at rule s at) λ value.
    on_done (run_at rules s (at + 4)) λ values.
    done (value ∷ values)

-- n values of a run, from the i-th on
abbrev pub values_of : List ℕ → ℕ → ℕ → List ℕ
values_of l i zero = []
values_of l i (suc n) = get_or l i 0 ∷ values_of l (suc i) n

-- a list in so much room: the rest holds `empty`
abbrev pub filled : {A : Type 0} → ℕ → A → List A → List A
filled room empty l = l ++ replicate (room - length l) empty

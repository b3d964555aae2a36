-- Inside the crate: what its private functions promise. No public promise cites this file.
use Rattle.std.specs.Prelude.{ℕ, suc, ◌+◌, ◌-◌, ◌≤◌, ◌<◌, ◌≡◌, Bool, true, false, ◌&&◌, not, List, leb, ltb, drop, length, map, take, Option, Some, None, Result, Ok, Err}
use Rattle.std.proofs.lemmas.List.Edits.{sets}
use Rattle.fields.specs.Limits.{any_number}
use Rattle.fields.specs.Numbers.{bad_steps, fault_number}
use Rattle.fields.specs.Judged.{Judged, done, refused, on_done, refused_if}
use Rattle.fields.specs.declared.refusal.Refusal.{Refusal}
use Rattle.climb.specs.Digits.{are_digits, value_of}
use Rattle.climb.specs.Lines.{Form, Rule, decimal, pattern, fields_after, has, past, until, row_from}
use Rattle.climb.specs.Climb.{Taken, end_form, is_empty}
use Rattle.climb.specs.declared.line.FieldRule as rule
use Rattle.climb.specs.declared.line.Form as form
use Rattle.climb.specs.declared.line.Place.{Place}
use Rattle.climb.specs.declared.steps.Taken as taken

-- ---- bytes

-- r is the index of the next such byte from `from` on, or the length
pub record FoundAt (stop : ℕ) (s : List ℕ) (from r : ℕ) : Type 0 where
  pub low : from ≤ r
  pub high : r ≤ length s
  pub before_it : until stop (drop from s) ≡ take (r - from) (drop from s)
  pub there : has stop (drop from s) ≡ ltb r (length s)
  pub after_it : past stop (drop from s) ≡ drop (r + 1) s

-- the next such byte's index, or that there is none
abbrev pub Found : ℕ → List ℕ → ℕ → Option ℕ → Type 0
Found stop s from (Some r) = (r < length s) × FoundAt stop s from r
Found stop s from None = FoundAt stop s from (length s)

-- ---- numbers

-- digits of that base that write a number below 2^32
abbrev pub is_number : ℕ → List ℕ → Bool
is_number base digits = are_digits base digits && leb (value_of base digits) any_number

-- the number where the test holds
abbrev pub number_if : Bool → ℕ → Option ℕ
number_if true v = Some v
number_if false v = None

-- ---- refusals

-- 01's number and place of a refusal, for a judgement of any type
abbrev pub refusal_given : {A : Type 0} → Refusal → Judged A
refusal_given e = refused (fault_number e.fault) e.place

-- ---- fields and lines

abbrev pub number_given : ℕ → Option ℕ → Judged ℕ
number_given line (Some v) = done v
number_given line None = refused bad_steps line

abbrev pub rule_of : rule.FieldRule → Rule
rule_of (rule.TheVariants.Decimal least most) = decimal least most
rule_of rule.TheVariants.Pattern = pattern

abbrev pub rules_of : List rule.FieldRule → List Rule
rules_of = map rule_of

abbrev pub form_of : form.Form → Form
form_of f = record { word = f.word.now; rules = rules_of f.rules.now }

-- what a table holds where a line's numbers keep their rules
abbrev pub fields_given : ℕ → Bool → List ℕ → Judged (List ℕ)
fields_given line true table = done table
fields_given line false table = refused bad_steps line

abbrev pub stored_fields : List ℕ → ℕ → Judged (List ℕ) → Judged (List ℕ)
stored_fields table to fields = on_done fields λ values. done (sets table to values)

abbrev pub FieldsRead : List ℕ → List Rule → List ℕ → ℕ → Bool → List ℕ → Type 0
FieldsRead fields rules table to r after = (line : ℕ) → fields_given line r after ≡ stored_fields table to (fields_after line rules fields)

-- ---- rows and steps

-- so many rows or steps, the table with their words, its next word, the next line's number, and the text after them
pub record Stored : Type 0 where
  pub count : ℕ
  pub table : List ℕ
  pub to : ℕ
  pub line : ℕ
  pub rest : List ℕ

-- one row or step
abbrev pub place_given : List ℕ → Result Place Refusal → List ℕ → Judged Stored
place_given text (Ok next) table = done (record { count = 1; table = table; to = next.to; line = next.line; rest = drop next.at text })
place_given text (Err e) table = refusal_given e

abbrev pub taken_given : List ℕ → Result taken.Taken Refusal → List ℕ → Judged Stored
taken_given text (Ok t) table =
    done (record { count = t.count; table = table; to = (t.next).to; line = (t.next).line; rest = drop (t.next).at text })
taken_given text (Err e) table = refusal_given e

-- what was taken, after `count` others, stored from index `to` on
abbrev pub stored : ℕ → List ℕ → ℕ → Judged Taken → Judged Stored
stored count table to j =
    on_done j λ t.
    done (record { count = count + t.count; table = sets table to t.words; to = to + length t.words; line = t.line; rest = t.rest })

-- a place within the text, a line's number and a word's index up to these; the bounds grow from caller to callee, so that no sum wraps
abbrev pub Within : List ℕ → ℕ → ℕ → Place → Type 0
Within text line to place = (place.at ≤ length text) × (place.line ≤ line) × (place.to ≤ to)

-- the place after a row of so many numbers
abbrev pub RowWithin : List ℕ → ℕ → Place → Result Place Refusal → Type 0
RowWithin text width from (Ok next) = (next.at ≤ length text) × (next.line ≡ from.line + 1) × (next.to ≡ from.to + width)
RowWithin text width from (Err e) = Unit {0}

abbrev pub PlaceWithin : List ℕ → ℕ → ℕ → Result Place Refusal → Type 0
PlaceWithin text line to (Ok next) = Within text line to next
PlaceWithin text line to (Err e) = Unit {0}

abbrev pub TakenWithin : List ℕ → ℕ → ℕ → Result taken.Taken Refusal → Type 0
TakenWithin text line to (Ok t) = Within text line to t.next
TakenWithin text line to (Err e) = Unit {0}

-- ---- the whole text

-- the last line, and none after it: then there are `n` words
unfoldable pub end_from : ℕ → ℕ → List ℕ → ℕ → Judged ℕ
end_from steps line text n =
    on_done (row_from (end_form steps) line text) λ last.
    refused_if (not (is_empty last.rest)) bad_steps (suc line) (done n)

-- so many words, and the table with them
pub record Written : Type 0 where
  pub words : ℕ
  pub table : List ℕ

abbrev pub text_given : Result ℕ Refusal → List ℕ → Judged Written
text_given (Ok n) table = done (record { words = n; table = table })
text_given (Err e) table = refusal_given e

abbrev pub stored_text : List ℕ → Judged (List ℕ) → Judged Written
stored_text table j = on_done j λ words. done (record { words = length words; table = sets table 0 words })

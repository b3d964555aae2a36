-- A line: its fields that are left, stored after those that were read, are the whole; each test of the code is one of the definition.
use Prim.Native.Nat.{ℕ, suc, ◌+◌, ◌-◌, ◌≤◌, ◌<◌}
use mathlib.Core.Path.{◌≡◌, ◌∙◌, ap, refl, sym}
use mathlib.Core.Bool.{Bool, true, false, not}
use mathlib.Core.List.{List, [], ◌∷◌}
use native.Mathlib.Numerals.{add-one}
use native.Mathlib.Omega.{arith}
use borrow.Author.Tests.{le-leb, lt-leb, lt-ltb}
use lib.ListN.{drop, get_or, length, set, take}
use lib.Seq.{drop-cons}
use Rattle.std.specs.Prelude.{Option}
use Rattle.std.specs.Option.{is_some}
use Rattle.fields.specs.Judged.{Judged, done, refused, on_done, refused_if}
use Rattle.fields.specs.Numbers.{bad_steps}
use Rattle.fields.proofs.Judging.{passed, refusal_before, same_done, value_before}
use Rattle.climb.specs.Digits.{is_decimal, is_pattern, value_of}
use Rattle.climb.specs.Climb.{row_taken}
use Rattle.climb.specs.Lines.{Form, Row, Rule, decimal, field_of, fields_after, has, line_feed, past, pattern, row_from, starts_with, tab, until}
use Rattle.climb.specs.Inside.{Found, FoundAt, fields_given, number_given, number_if, rule_of, rules_of, stored, stored_fields}
use Rattle.climb.specs.declared.line.FieldRule.{FieldRule}
use Rattle.climb.specs.declared.line.FieldRule.TheVariants as rule
use Rattle.climb.proofs.Finding.{and-false, found_has}

-- what follows from a value that was only handed on
pub on_mapped : {A B C : Type 0} (j : Judged A) (f : A → B) (k : B → Judged C) → on_done (on_done j (λ a. done (f a))) k ≡ on_done j (λ a. k (f a))
on_mapped (done a) f k = refl
on_mapped (refused n p) f k = refl

-- ---- a field

number_given_lem : (line : ℕ) (t : Bool) (v : ℕ) → number_given line (number_if t v) ≡ refused_if (not t) bad_steps line (done v)
number_given_lem line true v = refl
number_given_lem line false v = refl

module _ (field : List ℕ) (line : ℕ) where
  pub field_pattern : number_given line (number_if (is_pattern field) (value_of 16 field)) ≡ field_of line pattern field
  unfolding field_of
  field_pattern = number_given_lem line (is_pattern field) (value_of 16 field)

  module _ (least most : ℕ) where
    pub field_none : is_decimal field ≡ false → refused bad_steps line ≡ field_of line (decimal least most) field
    unfolding field_of
    field_none e = rw e

    module _ (v : ℕ) (e : is_decimal field ≡ true) (f : value_of 10 field ≡ v) where
      pub field_low : v < least → refused bad_steps line ≡ field_of line (decimal least most) field
      unfolding field_of
      field_low h = rw (e, f, lt-leb least v h)

      pub field_high : most < v → refused bad_steps line ≡ field_of line (decimal least most) field
      unfolding field_of
      field_high h = rw (e, f, lt-leb v most h, and-false)

      pub field_kept : least ≤ v → v ≤ most → done v ≡ field_of line (decimal least most) field
      unfolding field_of
      field_kept l h = rw (e, f, le-leb least v l, le-leb v most h)

-- ---- the fields of a line

-- the rules from index i on, of which the first is read next
pub rules_cons : (rules : List FieldRule) (i : ℕ) → i < length rules
    → rules_of (drop i rules) ≡ rule_of (get_or rules i (rule.Decimal 0 0)) ∷ rules_of (drop (i + 1) rules)
rules_cons rules i h = rw (drop-cons rules i (rule.Decimal 0 0) h, add-one)

module _ (line : List ℕ) (at : ℕ) (table : List ℕ) (to n : ℕ) where
  module _ (rule : Rule) (rules : List Rule) where
    pub fields_missing : has tab (drop at line) ≡ false → stored_fields table to (fields_after n (rule ∷ rules) (drop at line)) ≡ refused bad_steps n
    unfolding fields_after
    fields_missing e = rw (fields_after, e)

    module _ (at' : ℕ) (e : has tab (drop at line) ≡ true) (p : past tab (drop at line) ≡ drop at' line) where
      pub fields_bad : refused bad_steps n ≡ field_of n rule (until tab (drop at' line))
          → stored_fields table to (fields_after n (rule ∷ rules) (drop at line)) ≡ refused bad_steps n
      unfolding fields_after
      fields_bad f = rw (fields_after, e, p, ← f)

      pub fields_more : (v : ℕ) → done v ≡ field_of n rule (until tab (drop at' line))
          → stored_fields table to (fields_after n (rule ∷ rules) (drop at line)) ≡ stored_fields (set table to v) (to + 1) (fields_after n rules (drop at' line))
      unfolding fields_after
      fields_more v f = rw (fields_after, e, p, ← f, add-one) (on_mapped (fields_after n rules (drop at' line)) _ _)

  fields_ended-by : (q : Bool) → has tab (drop at line) ≡ not q → fields_given n q table ≡ stored_fields table to (fields_after n [] (drop at line))
  unfolding fields_after
  fields_ended-by true e = rw (fields_after, e)
  fields_ended-by false e = rw (fields_after, e)

  -- the last test, as the code makes it
  pub fields_ended : (r : Option ℕ) → Found tab line at r → (q : Bool) → is_some r ≡ not q
      → fields_given n q table ≡ stored_fields table to (fields_after n [] (drop at line))
  fields_ended r f q e = fields_ended-by q (found_has tab line at r f ∙ e)

-- ---- the first field

pub first_field : (text : List ℕ) (at end stop : ℕ) → FoundAt line_feed text at end → FoundAt tab (take (end - at) (drop at text)) 0 stop
    → take stop (take (end - at) (drop at text)) ≡ until tab (until line_feed (drop at text))
first_field text at end stop f g =
    let z : stop - 0 ≡ stop = omega arith in
    rw f.before_it (sym (g.before_it ∙ rw z))

-- ---- how many numbers a line has

fields_length : (n : ℕ) (rules : List Rule) (fields vs : List ℕ) → fields_after n rules fields ≡ done vs → length vs ≡ length rules
unfolding fields_after
fields_length n [] fields vs e =
    let same = same_done (passed (has tab fields) bad_steps n _ vs e).1 in
    ap length (sym same)
fields_length n (rule ∷ rules) fields vs e =
    let a = passed (not (has tab fields)) bad_steps n _ vs e in
    let b = value_before (field_of n rule (until tab (past tab fields))) _ vs a.1 in
    let d = value_before (fields_after n rules (past tab fields)) _ vs b.2 in
    ap length (sym (same_done d.2)) ∙ ap suc (fields_length n rules (past tab fields) d.0 d.1)

pub row_length : (form : Form) (n : ℕ) (text : List ℕ) (r : Row) → row_from form n text ≡ done r → length r.values ≡ length form.rules
unfolding row_from
row_length form n text r e =
    let a = passed (not (has line_feed text)) bad_steps n _ r e in
    let b = passed (not (starts_with form.word text)) bad_steps n _ r a.1 in
    let d = value_before (fields_after n form.rules (until line_feed text)) _ r b.1 in
    ap (λ (x : Row). length x.values) (sym (same_done d.2)) ∙ fields_length n form.rules (until line_feed text) d.0 d.1

-- ---- a line

module _ (text : List ℕ) (form : Form) (at to n : ℕ) (table : List ℕ) where
  pub row_unended : has line_feed (drop at text) ≡ false → refused bad_steps n ≡ stored 0 table to (row_taken form n (drop at text))
  unfolding row_from
  row_unended e = rw (row_from, e)

  module _ (end : ℕ) (h : end < length text) (f : FoundAt line_feed text at end) where
    pub row_other : starts_with form.word (drop at text) ≡ false → refused bad_steps n ≡ stored 0 table to (row_taken form n (drop at text))
    unfolding row_from
    row_other e = rw (row_from, f.there, lt-ltb end (length text) h, e)

    module _ (e : starts_with form.word (drop at text) ≡ true) (after : List ℕ) (r : Bool)
        (g : fields_given n r after ≡ stored_fields table to (fields_after n form.rules (take (end - at) (drop at text)))) where
      pub row_bad : r ≡ false → refused bad_steps n ≡ stored 0 table to (row_taken form n (drop at text))
      unfolding row_from
      row_bad w =
          let k = refusal_before (fields_after n form.rules (take (end - at) (drop at text))) _ bad_steps n (sym (rw w at g)) in
          rw (row_from, f.there, lt-ltb end (length text) h, e, f.before_it, k)

      pub row_done : r ≡ true → (width : ℕ) → length form.rules ≡ width
          → done (record { count = 1; table = after; to = to + width; line = n + 1; rest = drop (end + 1) text }) ≡ stored 0 table to (row_taken form n (drop at text))
      unfolding row_from
      row_done w width l =
          let k = value_before (fields_after n form.rules (take (end - at) (drop at text))) _ after (sym (rw w at g)) in
          let long : length (k.0) ≡ width = fields_length n form.rules _ k.0 k.1 ∙ l in
          rw (row_from, f.there, lt-ltb end (length text) h, e, f.before_it, k.1, same_done k.2, f.after_it, long, add-one n)

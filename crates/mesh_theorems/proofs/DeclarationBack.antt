-- A declaration is read back: its fields are three runs, one after the other, and each run is read back from where the one before it ends.
use Prim.Native.Nat.{ℕ, ◌+◌, ◌*◌, ◌≤◌}
use lib.ListN.{drop, get_or, length, length-append, replicate}
use mathlib.Core.List.{List, [], ◌∷◌, ◌++◌, append-nil}
use mathlib.Core.Path.{◌≡◌, ap, refl, sym, ◌∙◌}
use native.Mathlib.Nat.{zero-add}
use native.Mathlib.Omega.{arith}
use borrow.Author.Tests.{le-ltb}
use Rattle.fields.specs.Limits.{largest_count, largest_file}
use Rattle.fields.specs.Judged.{done}
use Rattle.mesh.specs.Run.{filled, limited, unjudged, values_of}
use Rattle.mesh.specs.Shading.{no_shading, shading_limit, shadings_at}
use Rattle.mesh.specs.Declaration.{closing_rules, declaration_of, declaration_with, mesh_name, opening_rules}
use Rattle.mesh.specs.declared.declaration.Declaration.{Declaration}
use Rattle.fields_theorems.proofs.Seams.{first_at, past}
use Rattle.fields_theorems.proofs.FieldsBack.{after_name, after_words, length_name_bytes, length_word_bytes, name_back, name_part_lem, two_runs}
use Rattle.mesh_theorems.specs.Encoding.{Declarable, closing_fields, declaration_bytes, declaration_fields, name_bytes, opening_fields}
use Rattle.mesh_theorems.specs.Encoding.{shadings_fields, stated_shadings, word_bytes}
use Rattle.mesh_theorems.proofs.FieldsBack.{Keeps, keeps_all, keeps_append, keeps_words, part_back, run_back}
use Rattle.mesh_theorems.proofs.Seams.{values_at}
use Rattle.mesh_theorems.proofs.ShadingsBack.{length_shadings, shadings_back}

-- from the normal parameters on, and from the inverse quants on
abbrev parameters_on : Declaration → List ℕ
parameters_on d = d.normal_parameters ++ (d.bone_count ∷ [])

abbrev quants_on : Declaration → List ℕ
quants_on d = d.inverse_quants ++ parameters_on d

module _ (name : List ℕ) (d : Declaration) (h : Declarable name d) where
  -- ---- the fields before the shadings

  length_opening : length (opening_fields d) ≡ 9
  unfolding opening_fields
  length_opening = omega (arith, h.six, length-append d.counts (d.shading_count ∷ []))

  opening_kept : Keeps opening_rules (opening_fields d)
  unfolding opening_fields Keeps
  opening_kept =
      let counts = keeps_all (limited largest_count) d.counts 6 (λ v u. omega arith) h.six h.small in
      let last : Keeps (limited shading_limit ∷ []) (d.shading_count ∷ []) = (omega (arith, h.few), tt) in
      let last₇ = keeps_append (replicate 6 (limited largest_count)) (limited shading_limit ∷ []) d.counts (d.shading_count ∷ []) counts last in
      (omega (arith, h.chained), (omega (arith, h.flags), last₇))

  -- the shading count stands after the counts
  shading_count_at : get_or (opening_fields d) 8 0 ≡ d.shading_count
  unfolding opening_fields
  shading_count_at =
      first_at (opening_fields d) d.shading_count [] 8 0 (past (opening_fields d) d.counts (d.shading_count ∷ []) 2 refl 6 h.six)

  counts_at : values_of (opening_fields d) 2 6 ≡ d.counts
  unfolding opening_fields
  counts_at = values_at (opening_fields d) d.counts (d.shading_count ∷ []) 2 6 refl h.six

  -- ---- the fields after the shadings

  length_closing : length (closing_fields d) ≡ 14
  unfolding closing_fields
  length_closing =
      omega (
        arith,
        h.qualities.many,
        h.quants.many,
        h.parameters.many,
        length-append d.quality_factors (quants_on d),
        length-append d.inverse_quants (parameters_on d),
        length-append d.normal_parameters (d.bone_count ∷ []),
      )

  closing_kept : Keeps closing_rules (closing_fields d)
  unfolding closing_fields Keeps
  closing_kept =
      let qualities = keeps_words d.quality_factors 3 h.qualities in
      let quants = keeps_words d.inverse_quants 5 h.quants in
      let parameters = keeps_words d.normal_parameters 3 h.parameters in
      let last : Keeps (limited 0 ∷ []) (d.bone_count ∷ []) = (omega (arith, h.boneless), tt) in
      let rules₄ = replicate 3 unjudged ++ (limited 0 ∷ []) in
      let last₄ = keeps_append (replicate 3 unjudged) (limited 0 ∷ []) d.normal_parameters (d.bone_count ∷ []) parameters last in
      let last₉ = keeps_append (replicate 5 unjudged) rules₄ d.inverse_quants (parameters_on d) quants last₄ in
      let last₁₂ = keeps_append (replicate 3 unjudged) (replicate 5 unjudged ++ rules₄) d.quality_factors (quants_on d) qualities last₉ in
      (omega (arith, h.minimum), (omega (arith, h.maximum), last₁₂))

  quants_here : drop 5 (closing_fields d) ≡ quants_on d
  unfolding closing_fields
  quants_here = past (closing_fields d) d.quality_factors (quants_on d) 2 refl 3 h.qualities.many

  parameters_here : drop 10 (closing_fields d) ≡ parameters_on d
  parameters_here = past (closing_fields d) d.inverse_quants (parameters_on d) 5 quants_here 5 h.quants.many

  bones_at : get_or (closing_fields d) 13 0 ≡ d.bone_count
  bones_at =
      let bones-here = past (closing_fields d) d.normal_parameters (d.bone_count ∷ []) 10 parameters_here 3 h.parameters.many in
      first_at (closing_fields d) d.bone_count [] 13 0 bones-here

  -- the declaration whose fields are these, and whose shadings are in their room, is the declaration
  with_back : declaration_with (length name) (opening_fields d) (filled shading_limit no_shading (stated_shadings d)) (closing_fields d) ≡ d
  unfolding opening_fields closing_fields
  with_back =
      let qualities = values_at (closing_fields d) d.quality_factors (quants_on d) 2 3 refl h.qualities.many in
      let quants = values_at (closing_fields d) d.inverse_quants (parameters_on d) 5 5 quants_here h.quants.many in
      let parameters = values_at (closing_fields d) d.normal_parameters (d.bone_count ∷ []) 10 3 parameters_here h.parameters.many in
      rw (← h.named, ← h.listed.rest, counts_at, shading_count_at, qualities, quants, parameters, bones_at)

  -- ---- the whole

  length_declaration : length (declaration_bytes name d) ≡ length name + 38 + 4 * length (shadings_fields (stated_shadings d)) + 56
  unfolding declaration_bytes declaration_fields
  length_declaration =
      omega (
        arith,
        length-append (name_bytes name) (word_bytes (declaration_fields d)),
        length_name_bytes name,
        length_word_bytes (declaration_fields d),
        length-append (opening_fields d) (shadings_fields (stated_shadings d) ++ closing_fields d),
        length_opening,
        length-append (shadings_fields (stated_shadings d)) (closing_fields d),
        length_closing,
      )

  -- The data of a declaration within the limits are far shorter than 16 MiB.
  pub declaration_sized : length (declaration_bytes name d) ≤ largest_file
  declaration_sized =
      omega (arith, length_declaration, length_shadings (stated_shadings d) h.shaded, h.listed.many, h.few, h.short)

-- A declaration within the limits, laid out in bytes, is read to exactly itself.
pub declaration_back : (name : List ℕ) (d : Declaration) → Declarable name d → declaration_of (declaration_bytes name d) ≡ done d
unfolding declaration_of declaration_bytes declaration_fields
declaration_back name d h =
    let s = declaration_bytes name d in
    let opening = opening_fields d in
    let shadings = shadings_fields (stated_shadings d) in
    let closing = closing_fields d in
    let words = word_bytes (declaration_fields d) in
    let opening-at = length name + 2 in
    let Closing-at = length name + 38 + 4 * length shadings in
    let opening-here = rw zero-add at (after_name s name words 0 refl) ∙ sym (append-nil words) in
    let opening-size : 4 * length opening ≡ 36 = omega (arith, length_opening name d h) in
    let e : opening-at + 36 ≡ length name + 38 = omega arith in
    let opened = part_back opening_rules s opening (shadings ++ closing) [] opening-at 36 (opening_kept name d h) opening-size opening-here in
    let shadings-here = two_runs s shadings closing [] (length name + 38) (rw e at opened.1) in
    let shaded =
    ap (λ (n : ℕ). shadings_at n s (length name + 38)) (shading_count_at name d h ∙ sym h.listed.many)
    ∙ shadings_back s (word_bytes closing ++ []) (length name + 38) (stated_shadings d) h.shaded shadings-here in
    let closing-here = after_words s shadings (word_bytes closing ++ []) (length name + 38) (4 * length shadings) shadings-here refl in
    let closed = run_back closing_rules s closing [] Closing-at (closing_kept name d h) closing-here in
    let named = name_back s name words 0 h.short refl in
    let sized = le-ltb largest_file (length s) (declaration_sized name d h) in
    let ended = le-ltb (Closing-at + 56) (length s) (omega (arith, length_declaration name d h)) in
    rw (sized, named, opened.0, shaded, closed, ended, with_back name d h)

-- Its name is handed out as it stands.
pub declaration_name : (name : List ℕ) (d : Declaration) → Declarable name d → mesh_name (declaration_bytes name d) ≡ name
unfolding mesh_name declaration_bytes
declaration_name name d h =
    let s = declaration_bytes name d in
    rw (le-ltb largest_file (length s) (declaration_sized name d h)) (name_part_lem s name (word_bytes (declaration_fields d)) 0 h.short refl)

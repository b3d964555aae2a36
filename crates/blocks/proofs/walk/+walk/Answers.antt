-- The block that was found is told, then its contents are walked, then its paddings are read: each is a law of Turns.
use Prim.Native.Nat.{ℕ, ◌+◌, ◌-◌, ◌≤◌}
use mathlib.Core.Bool.{Bool}
use mathlib.Core.Path.{◌≡◌, ap, sym, ◌∙◌}
use native.Mathlib.Omega.{arith}
use lib.ListN.{length}
use lib.Seq.{length-take-le}
use Rattle.fields.specs.Judged.{done}
use Rattle.blocks.specs.Kind.{is_continuation}
use Rattle.blocks.specs.Block.{block_at}
use Rattle.blocks.specs.Walk.{Outcome, and_then, inside_of, walk_of}
use Rattle.blocks.specs.Inside.{Stored, stored, answer_of, walk_stored}
use Rattle.fields.proofs.Judging.{handed_on}
use Rattle.blocks.proofs.Fits.{BlockFits, block_fits, in_chain_done}
use Rattle.blocks.proofs.Turns.{Short, told_short, rest_of, file_ended, block_refused, block_told, all-walked, filled-fits, chain_walked, chain_refused, no_chain, paddings_fine, paddings_refused, answer_done, answer_refused}
use Rattle.blocks.proofs.walk.+walk.Goals as goal
use Rattle.blocks.proofs.walk.+walk.Goals.{After-is_chain, Joined-is_chain, then-is_chain+in_ok-told, else-is_chain}

-- what is known where a block is told and its kind tested
module _ (t : ℕ) (c : After-is_chain t) where
  -- what was to be told at the call, and what is to be told after the block's contents
  abbrev asked : Stored
  asked = let a = c.args in walk_stored a.table.now a.text.now a.before a.lines a.s.now a.run a.remaining

  abbrev rest : Outcome
  rest = rest_of c.args.remaining c.loop-left._left c.args.s.now c.in_ok-b.b

  found : block_at c.args.s.now c.loop-left.at c.args.remaining c.loop-left.continued ≡ done c.in_ok-b.b
  found = sym c.in_ok-b.ensures

  fits : BlockFits (length c.args.s.now) c.loop-left.at c.args.remaining c.in_ok-b.b
  fits = block_fits c.args.s.now c.loop-left.at c.args.remaining c.loop-left.continued c.in_ok-b.b found

  short : Short (c.loop-left.at + 12) c.tell-told.result
  short =
      told_short c.args.lines _ c.loop-left.at _ _ c.tell-told.ensures.value c.loop-left.invariant.blocks_told
      c.loop-left.invariant.bytes_told

  step : asked
      ≡ stored c.tell-told.new.table c.tell-told.new.text c.tell-told.result c.args.lines
      (and_then (inside_of c.args.remaining c.args.s.now c.in_ok-b.b) rest)
  step =
      let l = c.loop-left in
      let e = c.tell-told.ensures in
      l.invariant.still_told
      ∙ block_told c.args.s.now c.args.remaining c.args.lines l.table l.text l.told l._left l.at l.continued c.in_ok-b.b
      c.row_of.result c.tell-told.new.table c.tell-told.new.text c.tell-told.result c.loop-left-test.true
      (sym c.if-file_ends.ensures) found c.row_of.ensures e.value e.table_after e.text_after

  data_within : c.in_ok-b.b.extent.data_end ≤ length c.args.s.now
  data_within = let f = fits in omega arith

-- what is known once the contents are walked, where there are any
module _ (t : ℕ) (c : Joined-is_chain t) where
  abbrev told_at : After-is_chain t
  told_at = (goal.at.paddings-requires t c).After-is_chain

  record PastContents : Type 0 where
    table_length : length c.if-is_chain.table ≡ length c.args.table.now
    text_length : length c.if-is_chain.text ≡ length c.args.text.now
    still_short : Short c.in_ok-b.b.extent.data_end c.if-is_chain.told
    still_told : asked t told_at ≡ stored c.if-is_chain.table c.if-is_chain.text c.if-is_chain.told c.args.lines (rest t told_at)

  past : PastContents
  past =
      let f = fits t told_at in
      let sh = short t told_at in
      let j = c.if-is_chain in
      let n = c.tell-told in
      let table_kept = n.auto.table ∙ c.loop-left.invariant.table_length in
      let text_kept = n.auto.text ∙ c.loop-left.invariant.text_length in
      let l = length-take-le c.in_ok-b.b.extent.data_end c.args.s.now (data_within t told_at) in
      elim j.branch [
        | then-is_chain+in_ok-told w ↦
            let chain = sym w.if-is_chain.ensures in
            let inner = sym w.in_ok-told.ensures ∙ ap done (sym w.told-is) in
            let told = rw (l, in_chain_done _ _ inner) at w.walk-inner.ensures.told_fits in
            record {
              table_length = ap length w.table-is ∙ w.walk-inner.auto.table ∙ table_kept;
              text_length = ap length w.text-is ∙ w.walk-inner.auto.text ∙ text_kept;
              still_short = record { blocks = told.0; bytes = told.1 };
              still_told = step t told_at
                  ∙ chain_walked c.args.s.now c.args.remaining c.args.lines c.in_ok-b.b n.new.table n.new.text n.result (rest t told_at)
                  _ j.table j.text j.told (f.enters chain) chain w.walk-inner.ensures.result_value inner (w.table-is ∙ w.walk-inner.ensures.table_after)
                  (w.text-is ∙ w.walk-inner.ensures.text_after);
            }
        | else-is_chain w ↦
            record {
              table_length = ap length w.table-is ∙ table_kept;
              text_length = ap length w.text-is ∙ text_kept;
              still_short = rw w.told-is (record { blocks = omega arith; bytes = omega arith });
              still_told = step t told_at
                  ∙ no_chain c.args.s.now c.args.remaining c.args.lines c.in_ok-b.b n.new.table n.new.text n.result (rest t told_at)
                  (sym w.if-is_chain.ensures)
                  ∙ rw (w.table-is, w.text-is, w.told-is);
            }
      ]

pub returns-then-file_ends : goal.returns-then-file_ends
returns-then-file_ends t c =
    let a = c.args in
    let l = c.loop-left in
    let ended = file_ended a.s.now a.remaining a.lines l.table l.text l.told l._left l.at l.continued c.loop-left-test.true
    (sym c.if-file_ends.ensures) in
    let q = answer_done _ l.table l.text l.told a.lines (l.invariant.still_told ∙ ended) in
    record {
      result_value = q.answer;
      table_after = q.in_table;
      text_after = q.in_text;
      told_fits = (omega arith, omega arith);
    }

pub returns-in_err-b : goal.returns-in_err-b
returns-in_err-b t c =
    let a = c.args in
    let l = c.loop-left in
    let e = handed_on _ _ c.from_residual.ensures.1 in
    let refused = block_refused a.s.now a.remaining a.lines l.table l.text l.told l._left l.at l.continued _ _ c.loop-left-test.true
    (sym c.if-file_ends.ensures) (sym c.in_err-b.ensures) in
    let q = answer_refused _ l.table l.text l.told a.lines _ _ (l.invariant.still_told ∙ refused) in
    record { result_value = e ∙ q.answer; table_after = q.in_table; text_after = q.in_text; told_fits = rw e tt }

pub slice_bounds-inside-end : goal.slice_bounds-inside-end
slice_bounds-inside-end t c = sym (length-take-le _ _ (data_within t (goal.at.slice_bounds-inside-end t c).After-is_chain))

pub overflow_sub-remaining : goal.overflow_sub-remaining
overflow_sub-remaining t c = (fits t (goal.at.overflow_sub-remaining t c).After-is_chain).enters (sym c.if-is_chain.ensures)

pub walk-inner-requires : goal.walk-inner-requires
walk-inner-requires t c =
    let h = (goal.at.walk-inner-requires t c).After-is_chain in
    let f = fits t h in
    let sh = short t h in
    let within = data_within t h in
    let deeper = f.enters (sym c.if-is_chain.ensures) in
    let l = length-take-le c.in_ok-b.b.extent.data_end c.args.s.now within in (
      omega arith,
      (
        rw l f.inside,
        rw l (omega arith),
        omega arith,
        omega arith,
        omega arith,
      ),
    )

pub returns-in_err-told : goal.returns-in_err-told
returns-in_err-told t c =
    let h = (goal.at.returns-in_err-told t c).After-is_chain in
    let n = c.tell-told in
    let w = c.walk-inner in
    let e = handed_on _ _ c.from_residual-in_err-told.ensures.1 in
    let chain = sym c.if-is_chain.ensures in
    let q = chain_refused c.args.s.now c.args.remaining c.args.lines c.in_ok-b.b n.new.table n.new.text n.result (rest t h) _ _ _
    (asked t h) w.new.table w.new.text ((fits t h).enters chain) chain w.ensures.result_value (sym c.in_err-told.ensures)
    w.ensures.table_after w.ensures.text_after (step t h) in
    record { result_value = e ∙ q.answer; table_after = q.in_table; text_after = q.in_text; told_fits = rw e tt }

pub paddings-requires : goal.paddings-requires
paddings-requires t c = let f = fits t (told_at t c) in (omega arith, f.ends)

pub returns-in_err-paddings : goal.returns-in_err-paddings
returns-in_err-paddings t c =
    let a = c.args in
    let b = c.in_ok-b.b in
    let j = c.if-is_chain in
    let e = handed_on _ _ c.from_residual-in_err-paddings.ensures.1 in
    let after = walk_of a.remaining (c.loop-left._left - 1) a.s.now b.extent.next (is_continuation b.kind) in
    let p = past t (goal.at.returns-in_err-paddings t c).Joined-is_chain in
    let refused = paddings_refused a.s.now a.remaining a.lines b j.table j.text j.told after _ _ (sym c.in_err-paddings.ensures) in
    let q = answer_refused _ j.table j.text j.told a.lines _ _ (p.still_told ∙ refused) in
    record { result_value = e ∙ q.answer; table_after = q.in_table; text_after = q.in_text; told_fits = rw e tt }

pub loop-left-preserved : goal.loop-left-preserved
loop-left-preserved t c =
    let a = c.args in
    let b = c.in_ok-b.b in
    let j = c.if-is_chain in
    let f = fits t (goal.at.loop-left-preserved t c).After-is_chain in
    let p = past t (goal.at.loop-left-preserved t c).Joined-is_chain in
    let after = λ (continued : Bool). walk_of a.remaining (c.loop-left._left - 1) a.s.now b.extent.next continued in
    record {
      at_within = f.ends;
      blocks_told = omega arith;
      bytes_told = omega arith;
      table_length = p.table_length;
      text_length = p.text_length;
      still_told = p.still_told
          ∙ paddings_fine a.s.now a.remaining a.lines b j.table j.text j.told (after (is_continuation b.kind)) tt (sym c.in_ok-paddings.ensures)
          ∙ ap (λ (k : Bool). stored j.table j.text j.told a.lines (after k)) (sym c.is_continuation-continued.ensures);
    }

pub returns : goal.returns
returns t c =
    let a = c.args in
    let l = c.loop-left in
    let e = l.invariant.still_told in
    let r = c.filled in
    let q = all-walked a.s.now a.remaining a.lines l.table l.text l.told l._left l.at l.continued _ c.loop-left-test.false
    r.ensures in
    record {
      result_value = q.answer ∙ ap answer_of (sym e);
      table_after = q.in_table ∙ ap (λ (s : Stored). s.table) (sym e);
      text_after = q.in_text ∙ ap (λ (s : Stored). s.text) (sym e);
      told_fits = filled-fits _ l.at _ l.told r.ensures (omega arith) (omega arith);
    }

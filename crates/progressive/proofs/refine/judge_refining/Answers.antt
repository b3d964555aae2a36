-- The counts after the step fit, so there is room for its records.
use Rattle.std.proofs.Common.{length, arith}
use Rattle.progressive.proofs.Rooms.{second_fits}
use Rattle.progressive.proofs.refine.judge_refining.Goals as goal

pub room_clear-requires : goal.room_clear-requires
room_clear-requires c =
    let a = c.args in
    omega (
      arith,
      second_fits (length a.faces.now) (length a.positions.now) a.present.faces a.present.positions a.target.faces a.target.positions
          c.both_fit.ensures c.if-not-both_fit.false,
      c.requires,
      c.new_face_count.ensures.0,
    )

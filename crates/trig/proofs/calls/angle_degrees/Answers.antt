-- `trig::calls::angle_degrees` meets its contract: refused by its checks, or the angle.
use Rattle.trig.proofs.Answering.{refused_point, answered_point}
use Rattle.trig.proofs.calls.angle_degrees.Goals as goal

pub returns-then-not-is_finite : goal.returns-then-not-is_finite
returns-then-not-is_finite c =
    let e = refused_point c.args.y c.args.x c.is_finite.ensures c.is_finite-2.ensures c.if-not-is_finite.true in
    record { gives_angle = e.0; toward = e.1 }

pub returns : goal.returns
returns c =
    let e = answered_point c.args.y c.args.x c.is_finite.ensures c.is_finite-2.ensures c.if-not-is_finite.false c.angle.ensures.value c.angle.ensures.toward in
    record { gives_angle = e.0; toward = e.1 }

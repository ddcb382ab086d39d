-- `piece_at` meets its contract: one law for each way through it.
use Rattle.substitute.proofs.Pieces.{front_inside, front_few, piece_wrong, piece_variable, piece_lambda}
use Rattle.substitute.proofs.Pieces.{piece_broken, piece_other, body_high}
use Rattle.substitute.proofs.piece_at.Goals as goal

pub returns : goal.returns
returns c =
    search (piece_other, c.in_ok-front.ensures, c.in_ok-body.ensures, c.if-is_named.ensures, c.if-is_named-2.ensures)

pub returns-in_err-front : goal.returns-in_err-front
returns-in_err-front c = search (piece_wrong, c.in_err-front.ensures)

pub is_named-requires : goal.is_named-requires
is_named-requires c = search (front_inside, c.in_ok-front.ensures)

pub returns-then-is_named : goal.returns-then-is_named
returns-then-is_named c = search (piece_variable, c.in_ok-front.ensures, c.if-is_named.ensures)

pub is_named-requires-2 : goal.is_named-requires-2
is_named-requires-2 c = search (front_inside, c.in_ok-front.ensures)

pub returns-then-is_named-2 : goal.returns-then-is_named-2
returns-then-is_named-2 c = search (piece_lambda, c.in_ok-front.ensures, c.if-is_named-2.ensures)

pub types_end-requires : goal.types_end-requires
types_end-requires c = search (front_few, c.in_ok-front.ensures)

pub returns-in_err-body : goal.returns-in_err-body
returns-in_err-body c = search (piece_broken, c.in_ok-front.ensures, c.in_err-body.ensures)

pub part_of-requires-2 : goal.part_of-requires-2
part_of-requires-2 c = search (body_high, c.in_ok-front.ensures, c.in_ok-body.ensures)

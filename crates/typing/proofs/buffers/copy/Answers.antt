-- `typing::buffers::copy` meets its contract: there is room for the part, for some words of it, or for none.
use Rattle.std.proofs.Common.{arith, refl, sym}
use Rattle.typing.proofs.Copies.{copied_whole, copied_cut, sets_out}
use Rattle.typing.proofs.buffers.copy.Goals as goal

pub returns-then-end-out : goal.returns-then-end-out
returns-then-end-out c =
    (refl, copied_whole _ _ _ _ _ c.copy.ensures (omega arith) c.if-end-out.true)

pub returns-then-to-out : goal.returns-then-to-out
returns-then-to-out c = (
  refl,
  copied_cut _ _ _ _ _ refl c.copy-then-to-out.ensures (omega arith) c.if-end-out.false,
)

pub returns-else-to-out : goal.returns-else-to-out
returns-else-to-out c = (refl, sym (sets_out _ _ c.args.part.now c.if-to-out.false))

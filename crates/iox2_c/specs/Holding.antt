-- What a pointer to a box owns, and a null pointer.
use base.Fml.{Fml, ftrue, fex}
use denote.RawPtr.{Ptr, null_ptr, block_ptr}
use denote.RattleType.{RattleType}
use Rattle.std.specs.declared.option.Option.{Option}
use Rattle.std.specs.declared.option.Option.TheVariants.{None, Some}
use Rattle.std.specs.declared.alloc.Global.{Global}
use Rattle.std.specs.contracts.impls.GlobalAllocator.TheImpl.{ghosts}
use Rattle.std.specs.Box.Ownership.{box_owns}

-- A null pointer stands for no box and owns nothing, and each other for a box with this value, which it owns.
module _ (R : RattleType) (a : Global) where
  abbrev pub holding : Ptr → Option R.Denot → Fml
  holding null_ptr None = ftrue
  holding null_ptr (Some x) = fex ⊥ (λ _. ftrue)
  holding (block_ptr b o) None = fex ⊥ (λ _. ftrue)
  holding (block_ptr b o) (Some x) = box_owns (ghosts.dealloc_token a) R (block_ptr b o) x

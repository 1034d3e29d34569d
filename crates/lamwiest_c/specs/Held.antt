-- What a handle owns: nothing where its pointer is null, and else a value in a box with the right to free it.
use base.Fml.{Fml, ftrue, ffalse}
use denote.RattleType.{RattleType}
use denote.RawPtr.{Ptr, block_ptr, null_ptr}
use Rattle.std.specs.declared.option.Option.{Option}
use Rattle.std.specs.declared.option.Option.TheVariants.{None, Some}
use Rattle.std.specs.declared.alloc.Global.{Global}
use Rattle.std.specs.contracts.impls.GlobalAllocator.TheImpl.{ghosts}
use Rattle.std.specs.Box.Ownership.{box_owns}

module _ (R : RattleType) (a : Global) where
  abbrev pub held : Ptr → Option R.Denot → Fml
  held null_ptr None = ftrue
  held null_ptr (Some x) = ffalse
  held (block_ptr b o) None = ffalse
  held (block_ptr b o) (Some x) = box_owns (ghosts.dealloc_token a) R (block_ptr b o) x

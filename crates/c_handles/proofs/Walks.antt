-- What walks over boxes cite, under one name.
pub use mathlib.Core.Path.{refl, sym, subst}
pub use mathlib.Core.List.{List, [], ◌∷◌, ◌++◌}
pub use seplogic.Ra.Ura.{Ura}
pub use mir.Val.{Val}
pub use base.Logic.{SProp, ent, emp, id⊢}
pub use base.Fml.{Fml, ftrue, fsep, flft}
pub use contract.BorrowLft.{◌⊑◌}
pub use contract.Monad.{fact}
pub use contract.Running.{tables}
pub use prog.Wp.{WpFn}
pub use types.Logic.{Logic}
pub use types.Kit.{Item, ‵, raw, ◌⊛◌, ◌$◌, ◌∵◌, !, qed, by, move, drop, use1, join, split, fsplit, fjoin, fpick, fpack, feq_i, feq_l, suffices, done}
pub use types.Part.{whole, sub, agg}
pub use types.Run.{stop, fld, no_more, and_then, of_opd, returns, enter, lit}
pub use types.ByLocal.{alloc_all, pass_all, free_all, look_at, get, get_in, sets}
pub use denote.Exit.{yes, no}
pub use denote.Param.Laws.{Laws}
pub use denote.RattleType.{RattleType, Valss}
pub use denote.RawPtr.{Ptr, RawPtr, block_ptr, null_ptr, ptr_val}
pub use denote.Signature.{plain, type_at}
pub use denote.Steps.{nothing, heard}
pub use denote.Struct.Owning.{shape}
pub use denote.Struct.Struct.{within}
pub use denote.Triple.Walked.{says, Stays, stay_dropped, walk_of, ends_at, Goes-dropped}
pub use Rattle.std.proofs.raw_atomic.Walks.{proved_at}

-- What one call says of its result.
use Rattle.std.proofs.Common.{◌≡◌, refl}
use Rattle.std.specs.Prelude.{Result, Ok, Err, OnOk}
use denote.Ref.{MutBor}
use denote.Param.Members.{Shared}
use Rattle.qs_base.specs.declared.memory.NoMemory.{NoMemory}
use Rattle.qs_base_each.specs.Calls.{Changes, ChangesTo}

module _ {F T : Type 0} (g : Shared F (MutBor T × Unit {0}) (Result (Unit {0}) NoMemory × (MutBor T × Unit {0}))) (f : F) where
  pub went_well : (r : Result (Unit {0}) NoMemory) (x y : T) → ChangesTo g f r x y → OnOk r (ChangesTo g f (Ok tt) x y)
  went_well (Ok u) x y h = h
  went_well (Err e) x y h = tt

  pub went : (r : Result (Unit {0}) NoMemory) (x y : T) → ChangesTo g f r x y → Changes g f x y
  went r x y h = record { gives = r; changes = h }

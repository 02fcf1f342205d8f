-- Functions of values that may be missing: there is a result where all are there.
use Rattle.std.specs.Prelude.{Option, Some, None}

abbrev pub lift1 : {A Y : Type 0} → (A → Y) → Option A → Option Y
lift1 f (Some a) = Some (f a)
lift1 f _ = None

abbrev pub lift2 : {A B Y : Type 0} → (A → B → Y) → Option A → Option B → Option Y
lift2 f (Some a) (Some b) = Some (f a b)
lift2 f _ _ = None

abbrev pub lift3 : {A B C Y : Type 0} → (A → B → C → Y) → Option A → Option B → Option C → Option Y
lift3 f (Some a) (Some b) (Some c) = Some (f a b c)
lift3 f _ _ _ = None

abbrev pub lift4 : {A B C D Y : Type 0} → (A → B → C → D → Y) → Option A → Option B → Option C → Option D → Option Y
lift4 f (Some a) (Some b) (Some c) (Some d) = Some (f a b c d)
lift4 f _ _ _ _ = None

abbrev pub lift5 : {A B C D E Y : Type 0} → (A → B → C → D → E → Y) → Option A → Option B → Option C → Option D → Option E → Option Y
lift5 f (Some a) (Some b) (Some c) (Some d) (Some e) = Some (f a b c d e)
lift5 f _ _ _ _ _ = None

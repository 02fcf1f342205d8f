-- What a function of values that may be missing tells of them where it has a result.
use Rattle.std.proofs.Common.{◌≡◌, Option, Some, None, refl}
use Rattle.qs_text_history.specs.Inner.Lifts.{lift1, lift2, lift3, lift4, lift5}

pub lifted1 : {A Y : Type 0} (f : A → Y) (a : Option A) (y : Y) → lift1 f a ≡ Some y → (x : A) × ((a ≡ Some x) × (f x ≡ y))
lifted1 f (Some x) y e = (x, (refl, cc))
lifted1 f None y e = cc

pub lifted2 : {A B Y : Type 0} (f : A → B → Y) (a : Option A) (b : Option B) (y : Y) → lift2 f a b ≡ Some y
    → (x : A) × ((z : B) × ((a ≡ Some x) × ((b ≡ Some z) × (f x z ≡ y))))
lifted2 f (Some x) (Some z) y e = (x, (z, (refl, (refl, cc))))
lifted2 f (Some x) None y e = cc
lifted2 f None b y e = cc

pub lifted3 : {A B C Y : Type 0} (f : A → B → C → Y) (a : Option A) (b : Option B) (c : Option C) (y : Y) → lift3 f a b c ≡ Some y
    → (x : A) × ((z : B) × ((w : C) × ((a ≡ Some x) × ((b ≡ Some z) × ((c ≡ Some w) × (f x z w ≡ y))))))
lifted3 f (Some x) (Some z) (Some w) y e = (x, (z, (w, (refl, (refl, (refl, cc))))))
lifted3 f (Some x) (Some z) None y e = cc
lifted3 f (Some x) None c y e = cc
lifted3 f None b c y e = cc

pub lifted4 : {A B C D Y : Type 0} (f : A → B → C → D → Y) (a : Option A) (b : Option B) (c : Option C) (d : Option D) (y : Y) → lift4 f a b c d ≡ Some y
    → (x : A) × ((z : B) × ((w : C) × ((v : D) × ((a ≡ Some x) × ((b ≡ Some z) × ((c ≡ Some w) × ((d ≡ Some v) × (f x z w v ≡ y))))))))
lifted4 f (Some x) (Some z) (Some w) (Some v) y e = (x, (z, (w, (v, (refl, (refl, (refl, (refl, cc))))))))
lifted4 f (Some x) (Some z) (Some w) None y e = cc
lifted4 f (Some x) (Some z) None d y e = cc
lifted4 f (Some x) None c d y e = cc
lifted4 f None b c d y e = cc

pub lifted5 : {A B C D E Y : Type 0} (f : A → B → C → D → E → Y) (a : Option A) (b : Option B) (c : Option C) (d : Option D) (e : Option E) (y : Y) → lift5 f a b c d e ≡ Some y
    → (x : A) × ((z : B) × ((w : C) × ((v : D) × ((u : E) × ((a ≡ Some x) × ((b ≡ Some z) × ((c ≡ Some w) × ((d ≡ Some v) × ((e ≡ Some u) × (f x z w v u ≡ y))))))))))
lifted5 f (Some x) (Some z) (Some w) (Some v) (Some u) y h = (x, (z, (w, (v, (u, (refl, (refl, (refl, (refl, (refl, cc))))))))))
lifted5 f (Some x) (Some z) (Some w) (Some v) None y h = cc
lifted5 f (Some x) (Some z) (Some w) None e y h = cc
lifted5 f (Some x) (Some z) None d e y h = cc
lifted5 f (Some x) None c d e y h = cc
lifted5 f None b c d e y h = cc

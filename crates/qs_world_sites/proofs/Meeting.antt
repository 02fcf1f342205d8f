-- Where the threads have joined: each ring was looked at from both ends, and bursts in all.
use Rattle.std.proofs.Common.{◌≡◌, ◌≢◌, ◌∙◌, ap, subst, sym, refl, ℕ, zero, List, [], ◌∷◌, arith, length}
use Rattle.std.specs.List.{AllZip}
use Rattle.std.specs.Prelude.{Result, Ok, Err, OnErr, OnOk, Some, slice_get}
use Rattle.std.specs.Result.{result_and}
use Rattle.qs_base.specs.declared.memory.NoMemory.{NoMemory}
use Rattle.qs_cell_peers.specs.Links.{LinksValue, into_of, out_of}
use Rattle.qs_disk.specs.Disk.{DiskState}
use Rattle.qs_link.specs.Lane.{IsFifo}
use Rattle.qs_world_rounds.proofs.Turning.{turns_rounds}
use Rattle.qs_world_rounds.specs.Rounds.{Cast, visits_of}
use Rattle.qs_world_rounds.specs.Turns.{TakesTurns}
use Rattle.qs_world_sites.proofs.Staying.{each_is, each_more, each_none, each_same, got_at, got_below, Got}
use Rattle.qs_world_sites.specs.Bursts.{AreFifoSites, Bursts}
use Rattle.qs_world_sites.specs.Carrying.{HasSameLinks}
use Rattle.qs_world_sites.specs.Late.{RisesBy}
use Rattle.qs_world_sites.specs.Sites.{AreCarried, AreLinksCarried, CarriesLanes, Each, links_of}

module _ {D : Type 0} where
  -- lanes, and then links
  pub all_met : (lanes links : Result (Unit {0}) NoMemory) (xs ys zs : List (Cast D)) → OnOk lanes (Each CarriesLanes xs ys) → OnOk links (AreLinksCarried ys zs) → OnOk (result_and lanes links) (AreCarried xs zs)
  all_met (Ok done) (Ok also) xs ys zs first second = record { mid = ys; lanes = first; links = second }
  all_met (Ok done) (Err refused) xs ys zs first second = tt
  all_met (Err refused) links xs ys zs first second = tt

  -- lanes were carried, of which the links see nothing
  pub same_fifo : (xs ys : List (Cast D)) → Each HasSameLinks xs ys → AreFifoSites ys → AreFifoSites xs
  same_fifo xs ys same joined n m a c here at apart =
      let there = now n a here in
      let to = now m c at in
      subst (λ (l : LinksValue). IsFifo (out_of l m).feed (into_of (links_of c) n)) (same.each n a there.item here there.is)
      (subst (λ (l : LinksValue). IsFifo (out_of (links_of there.item) m).feed (into_of l n)) (same.each m c to.item at to.is) (joined n m there.item to.item there.is to.is apart))
    where
      now : (k : ℕ) (x : Cast D) → slice_get xs k ≡ Some x → Got ys k
      now k x here = got_at ys k (let less = got_below xs k x here in let count = same.count in omega arith)

  -- each of them, one beside the other
  pub each_zip : (P Q : Cast D → Cast D → Type 0) → ((a b : Cast D) → P a b → Q a b) → (xs ys : List (Cast D)) → AllZip P xs ys → Each Q xs ys
  each_zip P Q f [] [] all = each_none Q
  each_zip P Q f (x ∷ xs) (y ∷ ys) all = each_more Q x y xs ys (f x y all.0) (each_zip P Q f xs ys all.1)
  each_zip P Q f [] (y ∷ ys) all = absurd all
  each_zip P Q f (x ∷ xs) [] all = absurd all

-- a burst is no round
pub burst_rises : {D : Type 0} (told : Type 0) (state : D → DiskState) (own size : D → ℕ) (turns : ℕ) (xs ys : List (Cast D)) → Bursts told state own size turns xs ys → Each (RisesBy 0) xs ys
burst_rises told state own size turns xs ys bursts =
    each_is (TakesTurns told state own size turns) (RisesBy 0) (λ a b taken. record { most = let same : visits_of b ≡ visits_of a = turns_rounds told state own size turns a b taken in omega (arith, same) }) xs ys bursts

pub no_burst : {D : Type 0} (told : Type 0) (state : D → DiskState) (own size : D → ℕ) (turns : ℕ) (xs : List (Cast D)) → turns ≡ 0 → Bursts told state own size turns xs xs
no_burst told state own size turns xs none =
    subst (λ (n : ℕ). Bursts told state own size n xs xs) (sym none) (each_same (TakesTurns told state own size 0) (λ a. refl) xs)

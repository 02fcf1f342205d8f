-- The invariant holds over logs that an earlier run left, and so wherever a run begins.
use Rattle.std.proofs.Common.{◌≡◌, ◌≢◌, Bool, true, false, refl, arith, if◌then◌else◌}
use Rattle.std.proofs.lemmas.Bool.Decides.{nat_tests}
use Rattle.qs_world_agree.specs.World.{Committed, Aborted, World}
use Rattle.qs_world_agree.specs.Origins.{Reopening, IsReopening, reopened, Origin, Begun, Found, IsOrigin, first}
use Rattle.qs_world_agree.proofs.Inv.{inv_start}
use Rattle.qs_world_agree.proofs.Whole.{Inv, Whole}

module _ (o : Reopening) (is : IsReopening o) where
  abbrev w : World
  w = reopened o

  -- what is not aborted has its Commit in the home's log
  committed : w.cell ≢ Aborted → o.committed ≡ true
  committed other = by o.committed other
    where
      by : (b : Bool) → (if b then Committed else Aborted) ≢ Aborted → b ≡ true
      by true a = refl
      by false a = absurd (a refl)

  whole : o.committed ≡ true → Whole w
  whole c = record {
    places = grind (arith, nat_tests);
    arrivals = λ i j l. grind (arith, nat_tests);
    tree = record { home = grind (arith, nat_tests, c); at = λ k. grind (arith, nat_tests) };
    bond = λ k. grind (arith, nat_tests);
    held = λ n. grind (arith, nat_tests, c);
    owed = λ n. grind (arith, nat_tests, c, is.listed n, is.in_doubt n);
    silent = grind (arith, nat_tests, c, is.home_clear, is.in_doubt);
    orphans = grind (arith, nat_tests);
    doubt = λ k. grind (arith, nat_tests, c, is.listed (o.node k));
    prepares = λ k i. grind (arith, nat_tests, c, is.in_doubt (o.node k) i);
    logged = λ n i. grind (arith, nat_tests, c, is.listed n, is.in_doubt n i);
    knows = λ k. grind (arith, nat_tests, c);
    asks = λ k j. grind (arith, nat_tests);
  }

  pub inv_reopened : Inv w
  inv_reopened = record {
    counts = grind (arith, nat_tests, is);
    servers = λ k i. grind (arith, nat_tests);
    involved = λ k i. grind (arith, nat_tests);
    keeps = λ k. grind (arith, nat_tests, is.home_past, is.up_present);
    outcomes = grind (arith, nat_tests, is.stands);
    whole = λ a. whole (committed a);
  }

pub inv_first : (o : Origin) → IsOrigin o → Inv (first o)
inv_first (Begun o) is = inv_start o is
inv_first (Found o) is = inv_reopened o is

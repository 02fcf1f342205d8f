-- What an end puts as it ticks, and as it sends, by what it keeps, owes and has met.
use Rattle.std.proofs.Common.{◌≡◌, ◌≢◌, ◌⊎◌, Bool, ℕ, ◌+◌, ◌==◌, true, false, refl, arith, List, [], ◌∷◌, ◌++◌, length, length-append, inl, inr, if◌then◌else◌}
use Rattle.std.specs.Prelude.{⊤, option_to_list}
use Rattle.std.proofs.lemmas.Bool.Decides.{nat_tests}
use Rattle.qs_session_channels.specs.End.{End, Packet, sent, sent_packet, tick_packets, again, packet}

-- each of these packets is so
abbrev pub Each : {M : Type 0} → (Packet M → Type 0) → List (Packet M) → Type 0
Each Q [] = ⊤
Each Q (p ∷ ps) = Q p × Each Q ps

pub each_both : {M : Type 0} → (Q : Packet M → Type 0) (ps qs : List (Packet M)) → Each Q ps → Each Q qs → Each Q (ps ++ qs)
each_both Q [] qs is more = more
each_both Q (p ∷ ps) qs is more = (is.0, each_both Q ps qs is.1 more)

pub each_map : {M : Type 0} → (Q R : Packet M → Type 0) → ((p : Packet M) → Q p → R p) → (ps : List (Packet M)) → Each Q ps → Each R ps
each_map Q R so [] is = tt
each_map Q R so (p ∷ ps) is = (so p is.0, each_map Q R so ps is.1)

pub each_again : {M : Type 0} → (Q : Packet M → Type 0) (e : End M) (stamp : ℕ) → ((number : ℕ) (x : M) → Q (packet e e.known (number + 1) stamp x)) → (k : ℕ) (xs : List M) → Each Q (again e stamp k xs)
each_again Q e stamp is k [] = tt
each_again Q e stamp is k (x ∷ xs) = (is k x, each_again Q e stamp is (k + 1) xs)

-- a tick puts a greeting to nobody, what is kept, an acknowledgement that is owed, a greeting until the peer is met, or nothing
pub record Strange {M : Type 0} (hello : M) (e : End M) (stamp : ℕ) : Type 0 where
  pub known : e.known ≡ 0
  pub puts : tick_packets hello e stamp ≡ packet e 0 0 stamp hello ∷ []

pub record Repeats {M : Type 0} (hello : M) (e : End M) (stamp : ℕ) : Type 0 where
  pub some : length e.kept ≢ 0
  pub puts : tick_packets hello e stamp ≡ again e stamp e.acked e.kept

pub record Acknowledges {M : Type 0} (hello : M) (e : End M) (stamp : ℕ) : Type 0 where
  pub none : length e.kept ≡ 0
  pub owed : e.owed ≡ true
  pub puts : tick_packets hello e stamp ≡ packet e e.known 0 stamp hello ∷ []

pub record Greets {M : Type 0} (hello : M) (e : End M) (stamp : ℕ) : Type 0 where
  pub none : length e.kept ≡ 0
  pub owed : e.owed ≡ false
  pub met : e.met ≡ false
  pub puts : tick_packets hello e stamp ≡ packet e 0 0 stamp hello ∷ []

pub record Rests {M : Type 0} (hello : M) (e : End M) (stamp : ℕ) : Type 0 where
  pub none : length e.kept ≡ 0
  pub owed : e.owed ≡ false
  pub met : e.met ≡ true
  pub puts : tick_packets hello e stamp ≡ []

abbrev pub Ticking : {M : Type 0} → M → End M → ℕ → Type 0
Ticking hello e stamp = Strange hello e stamp ⊎ Repeats hello e stamp ⊎ Acknowledges hello e stamp ⊎ Greets hello e stamp ⊎ Rests hello e stamp

pub ticking : {M : Type 0} → (hello : M) (e : End M) (stamp : ℕ) → Ticking hello e stamp
ticking {M} hello e stamp = by_tests (e.known == 0) refl (length e.kept == 0) refl e.owed refl e.met refl
  where
    by_tests : (strange : Bool) → (e.known == 0) ≡ strange → (none : Bool) → (length e.kept == 0) ≡ none → (owed : Bool) → e.owed ≡ owed → (met : Bool) → e.met ≡ met → Ticking hello e stamp
    by_tests true a none b owed c met d = inl (record { known = grind (arith, nat_tests, a); puts = grind (arith, nat_tests, a) })
    by_tests false a false b owed c met d = inr (inl (record { some = grind (arith, nat_tests, b); puts = grind (arith, nat_tests, a, b) }))
    by_tests false a true b true c met d = inr (inr (inl (record { none = grind (arith, nat_tests, b); owed = c; puts = grind (arith, nat_tests, a, b, c) })))
    by_tests false a true b false c false d = inr (inr (inr (inl (record { none = grind (arith, nat_tests, b); owed = c; met = d; puts = grind (arith, nat_tests, a, b, c, d) }))))
    by_tests false a true b false c true d = inr (inr (inr (inr (record { none = grind (arith, nat_tests, b); owed = c; met = d; puts = grind (arith, nat_tests, a, b, c, d) }))))

-- a send leaves as much, and puts the next number where the peer is known
pub record Sending {M : Type 0} (e : End M) (x : M) (stamp : ℕ) : Type 0 where
  pub mine : (sent e x).mine ≡ e.mine
  pub known : (sent e x).known ≡ e.known
  pub met : (sent e x).met ≡ e.met
  pub taken : (sent e x).taken ≡ e.taken
  pub acked : (sent e x).acked ≡ e.acked
  pub kept : length (sent e x).kept ≡ length e.kept + 1
  pub owed : e.known ≢ 0 → (sent e x).owed ≡ false
  pub none : e.known ≡ 0 → option_to_list (sent_packet e x stamp) ≡ []
  pub puts : e.known ≢ 0 → option_to_list (sent_packet e x stamp) ≡ packet e e.known (e.acked + length e.kept + 1) stamp x ∷ []

pub sending : {M : Type 0} → (e : End M) (x : M) (stamp : ℕ) → Sending e x stamp
sending {M} e x stamp = by_test (e.known == 0) refl
  where
    kept_by : (strange : Bool) → length (if strange then record e { kept = e.kept ++ x ∷ [] } else record e { kept = e.kept ++ x ∷ []; owed = false }).kept ≡ length e.kept + 1
    kept_by true = grind (arith, length-append)
    kept_by false = grind (arith, length-append)

    by_test : (strange : Bool) → (e.known == 0) ≡ strange → Sending e x stamp
    by_test strange a = record {
      mine = grind (arith, nat_tests);
      known = grind (arith, nat_tests);
      met = grind (arith, nat_tests);
      taken = grind (arith, nat_tests);
      acked = grind (arith, nat_tests);
      kept = kept_by (e.known == 0);
      owed = λ some. grind (arith, nat_tests, some);
      none = λ zero. grind (arith, nat_tests, zero);
      puts = λ some. grind (arith, nat_tests, some);
    }

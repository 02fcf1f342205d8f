-- Which servers vote in a pass: two-phase ones, in order, each of which served something since its last vote.
use Rattle.qs_world_refine.proofs.Words.{◌≡◌, ℕ, ◌+◌, ◌-◌, ◌<◌, ◌≤◌, ◌==◌, not, nat_le, Bool, true, false, List, [], ◌∷◌, Option, Some, None, refl, arith, if◌then◌else◌, nat_tests, ServerNo, class_of, is_two_phase, member_of, servers_due, is_due_at, Cast, MemberPart, Participant, uncast_of, server_no, is_covered_vote, and_parts}
use Rattle.qs_tm.specs.Members.{all_servers, is_covering}
use Rattle.qs_tm.specs.declared.participant.Due.TheVariants as dues

-- the vote of that server is due
pub record IsDue (part : Participant) (s : ℕ) : Type 0 where
  pub below : s < 7
  pub votes : is_two_phase (class_of s) ≡ true
  pub more : 1 ≤ uncast_of (member_of part (server_no s))

-- those of a list are, which stand in order from one number on
abbrev pub AreDue : Participant → ℕ → List ServerNo → Type 0
AreDue part k [] = Unit {0}
AreDue part k (s ∷ rest) = (k ≤ s.0) × (IsDue part s.0 × AreDue part (s.0 + 1) rest)

due_less : (part : Participant) (k j : ℕ) (list : List ServerNo) → j ≤ k → AreDue part k list → AreDue part j list
due_less part k j [] less is = is
due_less part k j (s ∷ rest) less is = (omega (arith, less, is.0), is.1)

-- what was served of them since stays
pub due_still : (part new : Participant) (k : ℕ) (list : List ServerNo) → ((r : ℕ) → k ≤ r → uncast_of (member_of new (server_no r)) ≡ uncast_of (member_of part (server_no r))) → AreDue part k list → AreDue new k list
due_still part new k [] same is = is
due_still part new k (s ∷ rest) same is =
    let first : IsDue part s.0 = is.1.0 in (
      is.0,
      (
        record { below = first.below; votes = first.votes; more = rw (same s.0 is.0) first.more },
        due_still part new (s.0 + 1) rest (λ r above. same r (omega (arith, above, is.0))) is.1.1,
      ),
    )

-- ---- those whose vote a pass finds due

some_left : (member : MemberPart) → not (is_covering member) ≡ true → is_covered_vote member ≡ true → 1 ≤ uncast_of member
some_left member open_now covered = by member.vote open_now covered
  where
    never : (a : ℕ) → not (a == 0) ≡ true → 1 ≤ a
    never a is = grind (arith, nat_tests, is)

    fewer : (a b : ℕ) → not (b == a) ≡ true → nat_le b a ≡ true → 1 ≤ a - b
    fewer a b is less = grind (arith, nat_tests, is, less)

    by : (o : Option Cast) → not (elim o [ None ↦ member.served == 0 | Some cast ↦ cast.covers == member.served ]) ≡ true → (elim o [ None ↦ true | Some cast ↦ nat_le cast.covers member.served ]) ≡ true
        → 1 ≤ (elim o [ None ↦ member.served | Some cast ↦ member.served - cast.covers ])
    by None is less = never member.served is
    by (Some cast) is less = fewer member.served cast.covers is less

module _ (part : Participant) (covered : (s : ServerNo) → is_covered_vote (member_of part s) ≡ true) where
  one : (k : ℕ) → k < 7 → (list : List ServerNo) → AreDue part (k + 1) list → (b : Bool) → is_due_at dues.Vote part (server_no k) ≡ b → AreDue part k (if b then server_no k ∷ list else list)
  one k below list more true is =
      let tests : (is_two_phase (class_of k) ≡ true) × (not (is_covering (member_of part (server_no k))) ≡ true) = and_parts (is_two_phase (class_of k)) (not (is_covering (member_of part (server_no k)))) is in
      (omega arith, (record { below = below; votes = tests.0; more = some_left (member_of part (server_no k)) tests.1 (covered (server_no k)) }, more))
  one k below list more false is = due_less part (k + 1) k list (omega arith) more

  pub dues_found : AreDue part 0 (servers_due dues.Vote part)
  unfolding all_servers
  dues_found =
      one 0 (omega arith) _ (one 1 (omega arith) _ (one 2 (omega arith) _ (one 3 (omega arith) _ (one 4 (omega arith) _ (one 5 (omega arith) _ (one 6 (omega arith) [] tt
      (is_due_at dues.Vote part (server_no 6)) refl) (is_due_at dues.Vote part (server_no 5)) refl) (is_due_at dues.Vote part (server_no 4)) refl) (is_due_at dues.Vote part (server_no 3)) refl)
      (is_due_at dues.Vote part (server_no 2)) refl) (is_due_at dues.Vote part (server_no 1)) refl) (is_due_at dues.Vote part (server_no 0)) refl

-- What waits for its reply waits on through each thing that a rule does: changes of what is kept of transactions, of commands, and of what is kept for clients.
use Rattle.qs_world_runs.proofs.Words.{◌≡◌, ◌≢◌, ◌⊎◌, inl, inr, ℕ, ◌==◌, ◌&&◌, ◌||◌, not, Bool, true, false, List, [], ◌∷◌, ◌++◌, Some, None, refl, sym, ap, subst, ◌∙◌, arith, if◌then◌else◌, nat_tests, is_at, filter, find, list_any, lookup, is_some, ClientNo, Member, Tid, give_back, is_taken, last_taken, take_first, KeptLabel, Lent, forget_apart, is_engaged, client_cmp, OpenCommand, Manager, Outstanding, Participant, AreApart, same_client_or, same_or_apart, part_changed, Among, IsBorrowed}
use Rattle.qs_world_runs.proofs.Words.{is_lent_to, eqb-true, and_first}
use Rattle.qs_node_kept.specs.Keeping.{has_label}
use Rattle.qs_node_kept.specs.Loans.{is_loan_of, is_untaken}
use Rattle.qs_node_kept.specs.declared.kept.Kept.{Kept}
use Rattle.qs_tm.specs.Manager as tm
use Rattle.qs_world_lawful.proofs.Apart.{Apart}
use Rattle.qs_world_lawful.proofs.Faces.{part_apart, put_apart}
use Rattle.qs_world_runs.specs.Awaited.{WaitsIn, its_request}

-- ---- lists

pub among_more : {A : Type 0} (x : A) (xs ys : List A) → Among x xs → Among x (xs ++ ys)
among_more x [] ys a = absurd a
among_more x (y ∷ xs) ys (inl is) = inl is
among_more x (y ∷ xs) ys (inr more) = inr (among_more x xs ys more)

pub among_left : {A : Type 0} (p : A → Bool) (x : A) (xs : List A) → p x ≡ true → Among x xs → Among x (filter p xs)
among_left p x [] is a = absurd a
among_left p x (y ∷ xs) is a = by (p y) refl a (among_left p x xs is)
  where
    by : (b : Bool) → p y ≡ b → Among x (y ∷ xs) → (Among x xs → Among x (filter p xs)) → Among x (filter p (y ∷ xs))
    by true so (inl same) more = rw so (inl same)
    by true so (inr rest) more = rw so (inr (more rest))
    by false so (inl same) more = absurd (let yes : p y ≡ true = ap p (sym same) ∙ is in cc (yes, so))
    by false so (inr rest) more = rw so (more rest)

find_more : {A : Type 0} (p : A → Bool) (xs ys : List A) (x : A) → find p xs ≡ Some x → find p (xs ++ ys) ≡ Some x
find_more p [] ys x is = absurd (cc is)
find_more p (y ∷ xs) ys x is = by (p y) refl is (find_more p xs ys x)
  where
    by : (b : Bool) → p y ≡ b → find p (y ∷ xs) ≡ Some x → (find p xs ≡ Some x → find p (xs ++ ys) ≡ Some x) → find p (y ∷ xs ++ ys) ≡ Some x
    by true so found more = rw so (rw so at found)
    by false so found more = rw so (more (rw so at found))

any_more : {A : Type 0} (p : A → Bool) (xs ys : List A) → list_any p xs ≡ true → list_any p (xs ++ ys) ≡ true
any_more p [] ys is = absurd (cc is)
any_more p (y ∷ xs) ys is = by (p y) refl is (any_more p xs ys)
  where
    by : (b : Bool) → p y ≡ b → (p y || list_any p xs) ≡ true → (list_any p xs ≡ true → list_any p (xs ++ ys) ≡ true) → (p y || list_any p (xs ++ ys)) ≡ true
    by true so any more = rw so refl
    by false so any more = rw so (more (rw so at any))

-- ---- loans of another client

module _ (client other : ClientNo) (far : (other.0 == client.0) ≡ false) (tid : Tid) (inc : ℕ) where
  abbrev stands : Lent → Bool
  stands = is_lent_to client tid inc

  -- one that is a loan of the other is none of the client's, whatever becomes of it
  others : (t : Tid) (loan : Lent) (rest : Bool) → (is_loan_of other t loan && rest) ≡ true → (loan.client.0 == client.0) ≡ false
  others t loan rest is = apart loan.client.0 other.0 client.0 (and_first (loan.client.0 == other.0) _ (and_first (is_loan_of other t loan) rest is)) far
    where
      apart : (a b c : ℕ) → (a == b) ≡ true → (b == c) ≡ false → (a == c) ≡ false
      apart a b c e k = grind (arith, nat_tests, e, k)

  pub take_lent : (t : Tid) (loans : List Lent) → list_any stands loans ≡ true → list_any stands (take_first other t loans) ≡ true
  take_lent t [] is = is
  take_lent t (loan ∷ loans) is = by (is_untaken other t loan) refl is (take_lent t loans)
    where
      by : (b : Bool) → is_untaken other t loan ≡ b → (stands loan || list_any stands loans) ≡ true → (list_any stands loans ≡ true → list_any stands (take_first other t loans) ≡ true) → list_any stands (take_first other t (loan ∷ loans)) ≡ true
      by true so any more = let none : (loan.client.0 == client.0) ≡ false = others t loan (not loan.taken) so in rw (so, none) (rw none at any)
      by false so any more = rw so (either (stands loan) refl)
        where
          either : (c : Bool) → stands loan ≡ c → (stands loan || list_any stands (take_first other t loans)) ≡ true
          either true so_far = rw so_far refl
          either false so_far = rw so_far (more (rw so_far at any))

  pub back_lent : (t : Tid) (loans : List Lent) → list_any stands loans ≡ true → list_any stands (give_back other t loans) ≡ true
  back_lent t [] is = is
  back_lent t (loan ∷ loans) is = by (is_taken other t loan && not (is_some (last_taken other t loans))) refl is (back_lent t loans)
    where
      by : (b : Bool) → (is_taken other t loan && not (is_some (last_taken other t loans))) ≡ b → (stands loan || list_any stands loans) ≡ true → (list_any stands loans ≡ true → list_any stands (give_back other t loans) ≡ true)
          → list_any stands (give_back other t (loan ∷ loans)) ≡ true
      by true so any more = let none : (loan.client.0 == client.0) ≡ false = others t loan loan.taken (and_first (is_taken other t loan) _ so) in rw (so, none) (rw none at any)
      by false so any more = rw so (either (stands loan) refl)
        where
          either : (c : Bool) → stands loan ≡ c → (stands loan || list_any stands (give_back other t loans)) ≡ true
          either true so_far = rw so_far refl
          either false so_far = rw so_far (more (rw so_far at any))

-- ---- of one request

module _ (tid : Tid) (member : Member) (number : ℕ) where
  abbrev pub W : Manager → List (ClientNo × OpenCommand) → Kept → ℕ → Type 0
  W manager commands kept inc = WaitsIn tid member number manager commands kept inc

  abbrev pub B : List (ClientNo × OpenCommand) → Kept → ℕ → Type 0
  B commands kept inc = IsBorrowed tid member number commands kept inc

  -- with what is held of the client
  pub with_borrowed : (manager : Manager) (commands new_commands : List (ClientNo × OpenCommand)) (kept new_kept : Kept) (inc : ℕ) (D : Type 0) → (B commands kept inc → B new_commands new_kept inc ⊎ D) → W manager commands kept inc → W manager new_commands new_kept inc ⊎ D
  with_borrowed manager commands new_commands kept new_kept inc D goes w = by w.holds
    where
      made : B new_commands new_kept inc ⊎ D → W manager new_commands new_kept inc ⊎ D
      made (inl b) = inl (record { part = w.part; known = w.known; undecided = w.undecided; engaged = w.engaged; request = w.request; to_member = w.to_member; numbered = w.numbered; among = w.among; holds = inr (inr b) })
      made (inr d) = inr d

      by : (Rattle.qs_tm.specs.Participant.is_by_files w.request ≡ true) ⊎ ((w.part.engage.home ≡ true) ⊎ B commands kept inc) → W manager new_commands new_kept inc ⊎ D
      by (inl files) = inl (record { part = w.part; known = w.known; undecided = w.undecided; engaged = w.engaged; request = w.request; to_member = w.to_member; numbered = w.numbered; among = w.among; holds = inl files })
      by (inr (inl home)) = inl (record { part = w.part; known = w.known; undecided = w.undecided; engaged = w.engaged; request = w.request; to_member = w.to_member; numbered = w.numbered; among = w.among; holds = inr (inl home) })
      by (inr (inr b)) = made (goes b)

  -- ---- what is kept of transactions

  -- a change that keeps a transaction engaged and undecided, and what waits
  pub record Stays (f : Participant → Participant) : Type 0 where
    pub home : (p : Participant) → (f p).engage.home ≡ p.engage.home
    pub superior : (p : Participant) → is_some p.engage.superior ≡ true → is_some (f p).engage.superior ≡ true
    pub outcome : (p : Participant) → (f p).outcome ≡ p.outcome
    pub waiting : (p : Participant) (request : Outstanding) → request.member ≡ member → request.number ≡ number → Among request p.waiting → Among request (f p).waiting

  module _ (commands : List (ClientNo × OpenCommand)) (kept : Kept) (inc : ℕ) where
    pub elsewhere : (old new : Manager) → tm.part_of tid new ≡ tm.part_of tid old → W old commands kept inc → W new commands kept inc
    elsewhere old new same w = record { part = w.part; known = same ∙ w.known; undecided = w.undecided; engaged = w.engaged; request = w.request; to_member = w.to_member; numbered = w.numbered; among = w.among; holds = w.holds }

    pub part_on : (t : Tid) (f : Participant → Participant) (manager : Manager) → (t ≡ tid → Stays f) → W manager commands kept inc → W (tm.with_part t f manager) commands kept inc
    part_on t f manager stays w = by (same_or_apart t tid)
      where
        own : Stays f → W (tm.with_part tid f manager) commands kept inc
        own s = record {
          part = f w.part;
          known = part_changed tid f manager w.part w.known;
          undecided = s.outcome w.part ∙ w.undecided;
          engaged = on w.part.engage.home refl w.engaged;
          request = w.request;
          to_member = w.to_member;
          numbered = w.numbered;
          among = s.waiting w.part w.request w.to_member w.numbered w.among;
          holds = held w.holds;
        }
          where
            held : (Rattle.qs_tm.specs.Participant.is_by_files w.request ≡ true) ⊎ ((w.part.engage.home ≡ true) ⊎ B commands kept inc) → (Rattle.qs_tm.specs.Participant.is_by_files w.request ≡ true) ⊎ (((f w.part).engage.home ≡ true) ⊎ B commands kept inc)
            held (inl files) = inl files
            held (inr (inl home)) = inr (inl (s.home w.part ∙ home))
            held (inr (inr b)) = inr (inr b)

            on : (h : Bool) → w.part.engage.home ≡ h → is_engaged w.part ≡ true → is_engaged (f w.part) ≡ true
            on true is so = let now : (f w.part).engage.home ≡ true = s.home w.part ∙ is in let open_now : (f w.part).outcome ≡ None = s.outcome w.part ∙ w.undecided in rw (now, open_now) refl
            on false is so = let now : (f w.part).engage.home ≡ false = s.home w.part ∙ is in rw now (s.superior w.part (rw is at so))

        by : (t ≡ tid) ⊎ Apart t tid → W (tm.with_part t f manager) commands kept inc
        by (inl e) = subst (λ (u : Tid). W (tm.with_part u f manager) commands kept inc) (sym e) (own (stays e))
        by (inr far) = elsewhere manager (tm.with_part t f manager) (part_apart t tid f manager far) w

    -- one more is known
    pub put_on : (t : Tid) (part : Participant) (manager : Manager) → (t ≡ tid → ⊥) → W manager commands kept inc → W (tm.put_part t part manager) commands kept inc
    put_on t part manager other w = by (same_or_apart t tid)
      where
        by : (t ≡ tid) ⊎ Apart t tid → W (tm.put_part t part manager) commands kept inc
        by (inl e) = absurd (other e)
        by (inr far) = elsewhere manager (tm.put_part t part manager) (put_apart t tid part manager far) w

    -- or none the less, where it was not
    pub unknown_on : (t : Tid) (part : Participant) (manager : Manager) → W manager commands kept inc → W (if tm.knows t manager then manager else tm.put_part t part manager) commands kept inc
    unknown_on t part manager w = by (tm.knows t manager) refl
      where
        by : (b : Bool) → tm.knows t manager ≡ b → W (if b then manager else tm.put_part t part manager) commands kept inc
        by true is = w
        by false is = put_on t part manager (λ e. absurd (let known : is_some (tm.part_of t manager) ≡ true = subst (λ (u : Tid). is_some (tm.part_of u manager) ≡ true) (sym e) (rw w.known refl) in cc (is, known))) w

    pub forget_on : (t : Tid) (manager : Manager) → (t ≡ tid → ⊥) → W manager commands kept inc → W (tm.forget t manager) commands kept inc
    forget_on t manager other w = by (same_or_apart tid t)
      where
        by : (tid ≡ t) ⊎ Apart tid t → W (tm.forget t manager) commands kept inc
        by (inl e) = absurd (other (sym e))
        by (inr far) = elsewhere manager (tm.forget t manager) (forget_apart tid t manager far.by) w

  -- ---- commands, where the client of the change waits for another reply, or for none

  abbrev pub IsFree : ClientNo → List (ClientNo × OpenCommand) → Type 0 → Type 0
  IsFree client commands D = (command : OpenCommand) → lookup (is_at (client_cmp client)) commands ≡ Some command → command.issued ≡ Some (its_request tid member number) → D

  -- or is another than the one that waits for this one
  abbrev pub IsOther : ClientNo → List (ClientNo × OpenCommand) → Kept → ℕ → Type 0 → Type 0
  IsOther client commands kept inc D = (b : B commands kept inc) → client ≡ b.client → D

  pub free_other : (client : ClientNo) (commands : List (ClientNo × OpenCommand)) (kept : Kept) (inc : ℕ) (D : Type 0) → IsFree client commands D → IsOther client commands kept inc D
  free_other client commands kept inc D free b e = free b.command (subst (λ (c : ClientNo). lookup (is_at (client_cmp c)) commands ≡ Some b.command) (sym e) b.there) b.issued

  module _ (kept : Kept) (inc : ℕ) (D : Type 0) (client : ClientNo) (commands new : List (ClientNo × OpenCommand)) (other : IsOther client commands kept inc D)
      (same : (c : ClientNo) → (client ≢ c) × AreApart client c → lookup (is_at (client_cmp c)) new ≡ lookup (is_at (client_cmp c)) commands) where
    pub borrowed_on : B commands kept inc → B new kept inc ⊎ D
    borrowed_on b = by (same_client_or client b.client)
      where
        by : (client ≡ b.client) ⊎ ((client ≢ b.client) × AreApart client b.client) → B new kept inc ⊎ D
        by (inl e) = inr (other b e)
        by (inr far) = inl (record { client = b.client; command = b.command; there = same b.client far ∙ b.there; issued = b.issued; begun = b.begun; label = b.label; other = b.other; lent = b.lent })

  -- ---- what is kept for clients

  module _ (commands : List (ClientNo × OpenCommand)) (inc : ℕ) where
    pub labelled_on : (kept : Kept) (label : KeptLabel) → B commands kept inc → B commands (record kept { labels = kept.labels ++ label ∷ [] }) inc
    labelled_on kept label b = record { client = b.client; command = b.command; there = b.there; issued = b.issued; begun = b.begun; label = find_more (has_label b.command.line.label) kept.labels (label ∷ []) b.begun b.label; other = b.other; lent = b.lent }

    pub lent_on : (kept : Kept) (loan : Lent) → B commands kept inc → B commands (record kept { loans = kept.loans ++ loan ∷ [] }) inc
    lent_on kept loan b = record { client = b.client; command = b.command; there = b.there; issued = b.issued; begun = b.begun; label = b.label; other = b.other; lent = any_more (is_lent_to b.client tid inc) kept.loans (loan ∷ []) b.lent }

    module _ (D : Type 0) (client : ClientNo) (kept : Kept) (other : IsOther client commands kept inc D) (loans : List Lent)
        (goes : (c : ClientNo) → (client.0 == c.0) ≡ false → list_any (is_lent_to c tid inc) kept.loans ≡ true → list_any (is_lent_to c tid inc) loans ≡ true) where
      pub loans_on : B commands kept inc → B commands (record kept { loans = loans }) inc ⊎ D
      loans_on b = by (client.0 == b.client.0) refl
        where
          client_as : ℕ → ClientNo
          client_as k = record { 0 = k }

          by : (c : Bool) → (client.0 == b.client.0) ≡ c → B commands (record kept { loans = loans }) inc ⊎ D
          by true e = inr (other b (ap (λ (k : ℕ). client_as k) (eqb-true client.0 b.client.0 e)))
          by false far = inl (record { client = b.client; command = b.command; there = b.there; issued = b.issued; begun = b.begun; label = b.label; other = b.other; lent = goes b.client far b.lent })

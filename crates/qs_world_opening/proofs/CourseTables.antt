-- What a script makes of the clients and nodes of a course, at each number: the seat and the quota that its last line gives, and the client's lines.
use Rattle.std.proofs.Common.{◌≡◌, ◌∙◌, ℕ, zero, suc, ◌+◌, ◌<◌, ◌==◌, ◌++◌, Bool, true, false, List, [], ◌∷◌, Option, Some, None, append-nil, append_assoc, replicate, fold, inl, inr, refl, sym, ap, subst, arith, if◌then◌else◌}
use Rattle.std.specs.Prelude.{◌⊎◌, slice_get, slice_set}
use Rattle.std.specs.Option.{option_map}
use Rattle.std.proofs.lemmas.Bool.{eqb-true}
use Rattle.std.proofs.lemmas.Bool.Decides.{nat_tests}
use Rattle.qs_base.specs.declared.identifiers.NodeNo.{NodeNo}
use Rattle.qs_book_journal.specs.declared.script_line.ScriptLine.{ScriptLine}
use Rattle.qs_book_laws.proofs.Maps.{changed_at_alike, changed_at_here, set_at_either}
use Rattle.qs_book_machine.specs.Book.{changed_at}
use Rattle.qs_book_script.specs.declared.script.FaultLine.{FaultLine}
use Rattle.qs_book_script.specs.declared.script.Planned.{Planned}
use Rattle.qs_book_script.specs.declared.script.Planned.TheVariants as plans
use Rattle.qs_book_script.specs.declared.script.Quota.{Quota}
use Rattle.qs_book_script.specs.declared.script.Script.{Script}
use Rattle.qs_book_script.specs.declared.script.Seat.{Seat}
use Rattle.qs_book_conformance.specs.Begun.{clients_of, commanded, grounded, limited, no_client, no_node, nodes_of, seated, with_ground, with_line}
use Rattle.qs_book_conformance.specs.Course.{ClientValue}
use Rattle.qs_book_conformance.specs.Files.{quota_of}
use Rattle.qs_book_conformance.specs.declared.values.NodeCourse.{NodeCourse}
use Rattle.qs_world_plans.specs.Plan.{commands_of, line_of}

-- ---- one item of a list is changed

module _ {X : Type 0} (f : X → X) (xs : List X) (i j : ℕ) where
  changed_else : (i == j) ≡ false → slice_get (changed_at i f xs) j ≡ slice_get xs j
  changed_else far = by (slice_get xs i) refl
    where
      differ : j ≡ i → (i == j) ≡ false → ⊥
      differ same off = grind (arith, nat_tests)

      at : (v : X) → ((j ≡ i) × (slice_get xs j ≡ Some v) × (slice_get (slice_set xs i (f v)) j ≡ Some (f v))) ⊎ (slice_get (slice_set xs i (f v)) j ≡ slice_get xs j)
          → slice_get (slice_set xs i (f v)) j ≡ slice_get xs j
      at v (inl is) = absurd (differ is.0 far)
      at v (inr is) = is

      by : (o : Option X) → slice_get xs i ≡ o → slice_get (elim o [ None ↦ xs | Some v ↦ slice_set xs i (f v) ]) j ≡ slice_get xs j
      by None is = refl
      by (Some v) is = at v (set_at_either xs i j v (f v) is)

  -- by the test of its number
  changed_by : (g : Bool → X → X) → ((x : X) → f x ≡ g true x) → ((x : X) → x ≡ g false x) → (v : X) → slice_get xs j ≡ Some v → slice_get (changed_at i f xs) j ≡ Some (g (i == j) v)
  changed_by g on off v there = by (i == j) refl
    where
      by : (b : Bool) → (i == j) ≡ b → slice_get (changed_at i f xs) j ≡ Some (g b v)
      by true is = subst (λ (k : ℕ). slice_get (changed_at k f xs) j ≡ Some (g true v)) (sym (eqb-true i j is)) (changed_at_here f xs j v there ∙ ap Some (on v))
      by false is = changed_else is ∙ (there ∙ ap Some (off v))

-- ---- clients

-- the seat that the last line gives
abbrev pub seat_after : ℕ → Option NodeNo → List Seat → Option NodeNo
seat_after k old [] = old
seat_after k old (seat ∷ seats) = seat_after k (if seat.client.0 == k then Some seat.node else old) seats

seats_at : (seats : List Seat) (clients : List ClientValue) (k : ℕ) (c : ClientValue) → slice_get clients k ≡ Some c → slice_get (fold seated clients seats) k ≡ Some (record c { seat = seat_after k c.seat seats })
seats_at [] clients k c there = there
seats_at (seat ∷ seats) clients k c there = seats_at seats (seated clients seat) k (record c { seat = if seat.client.0 == k then Some seat.node else c.seat })
    (changed_by (λ (x : ClientValue). record x { seat = Some seat.node }) clients seat.client.0 k (λ b x. record x { seat = if b then Some seat.node else x.seat }) (λ x. refl) (λ x. refl) c there)

lines_at : (lines : List ScriptLine) (clients : List ClientValue) (k : ℕ) (c : ClientValue) → slice_get clients k ≡ Some c → slice_get (fold commanded clients lines) k ≡ Some (record c { left = c.left ++ commands_of (record { 0 = k }) lines })
lines_at [] clients k c there = there ∙ ap (λ (l : List ScriptLine). Some (record c { left = l })) (sym (append-nil c.left))
lines_at (line ∷ lines) clients k c there =
    lines_at lines (commanded clients line) k (record c { left = c.left ++ line_of (record { 0 = k }) line })
    (changed_by (λ (x : ClientValue). record x { left = x.left ++ line ∷ [] }) clients line.client.0 k (λ b x. record x { left = x.left ++ (if b then line ∷ [] else []) }) (λ x. refl)
    (λ x. ap (λ (l : List ScriptLine). record x { left = l }) (sym (append-nil x.left))) c there)
    ∙ ap (λ (l : List ScriptLine). Some (record c { left = l })) (append_assoc c.left (line_of (record { 0 = k }) line) (commands_of (record { 0 = k }) lines))

replicated : {X : Type 0} (x : X) (n k : ℕ) → k < n → slice_get (replicate n x) k ≡ Some x
replicated x zero k low = absurd (none k low)
  where
    none : (k : ℕ) → k < 0 → ⊥
    none k low = grind (arith, low)
replicated x (suc n) zero low = refl
replicated x (suc n) (suc k) low = replicated x n k (less k n low)
  where
    less : (k n : ℕ) → suc k < suc n → k < n
    less k n low = grind (arith, low)

pub clients_at : (script : Script) (k : ℕ) → k < 256 → slice_get (clients_of script) k ≡ Some (record no_client { seat = seat_after k None script.seats; left = commands_of (record { 0 = k }) script.lines })
clients_at script k low = lines_at script.lines (fold seated (replicate 256 no_client) script.seats) k (record no_client { seat = seat_after k None script.seats })
    (seats_at script.seats (replicate 256 no_client) k no_client (replicated no_client 256 k low))

-- ---- nodes

abbrev pub quota_after : ℕ → ℕ → List Quota → ℕ
quota_after n old [] = old
quota_after n old (quota ∷ quotas) = quota_after n (if quota.node.0 == n then quota.bytes else old) quotas

quotas_at : (quotas : List Quota) (nodes : List NodeCourse) (n : ℕ) (c : NodeCourse) → slice_get nodes n ≡ Some c → slice_get (fold limited nodes quotas) n ≡ Some (record c { quota = quota_after n c.quota quotas })
quotas_at [] nodes n c there = there
quotas_at (quota ∷ quotas) nodes n c there = quotas_at quotas (limited nodes quota) n (record c { quota = if quota.node.0 == n then quota.bytes else c.quota })
    (changed_by (λ (x : NodeCourse). record x { quota = quota.bytes }) nodes quota.node.0 n (λ b x. record x { quota = if b then quota.bytes else x.quota }) (λ x. refl) (λ x. refl) c there)

-- fault lines leave quotas
abbrev quota_in : List NodeCourse → ℕ → Option ℕ
quota_in nodes n = option_map (λ (c : NodeCourse). c.quota) (slice_get nodes n)

line_leaves : (node : NodeNo) (nodes : List NodeCourse) (n : ℕ) → quota_in (with_line node nodes) n ≡ quota_in nodes n
line_leaves node nodes n = changed_at_alike (λ (c : NodeCourse). c.quota) (λ (c : NodeCourse). record c { lines = c.lines + 1 }) (λ c. refl) nodes node.0 n

ground_leaves : (planned : Planned) (nodes : List NodeCourse) (n : ℕ) → quota_in (with_ground planned nodes) n ≡ quota_in nodes n
ground_leaves (plans.Crash node event) nodes n = line_leaves node nodes n
ground_leaves (plans.Stop node call) nodes n = line_leaves node nodes n
ground_leaves (plans.At node point) nodes n = by point.after
  where
    by : (b : Bool) → quota_in (if b then nodes else with_line node nodes) n ≡ quota_in nodes n
    by true = refl
    by false = line_leaves node nodes n
ground_leaves (plans.Drop from to packet) nodes n = refl
ground_leaves (plans.Again from to packet) nodes n = refl
ground_leaves (plans.Hold from to packet count) nodes n = refl

grounds_leave : (faults : List FaultLine) (nodes : List NodeCourse) (n : ℕ) → quota_in (fold grounded nodes faults) n ≡ quota_in nodes n
grounds_leave [] nodes n = refl
grounds_leave (line ∷ faults) nodes n = grounds_leave faults (grounded nodes line) n ∙ ground_leaves line.fault nodes n

pub quota_at : (script : Script) (n : ℕ) → n < 256 → quota_of (slice_get (nodes_of script) n) ≡ quota_after n 1048576 script.quotas
quota_at script n low = by (slice_get (nodes_of script) n) (grounds_leave script.faults (fold limited (replicate 256 no_node) script.quotas) n
    ∙ ap (option_map (λ (c : NodeCourse). c.quota)) (quotas_at script.quotas (replicate 256 no_node) n no_node (replicated no_node 256 n low)))
  where
    by : (o : Option NodeCourse) → option_map (λ (c : NodeCourse). c.quota) o ≡ Some (quota_after n 1048576 script.quotas) → quota_of o ≡ quota_after n 1048576 script.quotas
    by None is = absurd (cc is)
    by (Some c) is = cc is

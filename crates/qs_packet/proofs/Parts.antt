-- Parts that are taken, or added, one behind the other.
use Rattle.std.proofs.Common.{ℕ, List, [], ◌∷◌, refl, Result, Ok, Err, IfOk}
use Rattle.qs_codec.specs.Reading.{Reading}
use Rattle.qs_ops.specs.declared.answer.Cause.{Cause}
use Rattle.qs_ops.specs.declared.reply.Reply.{Reply}
use Rattle.qs_ops.specs.declared.vote.Reason.{Reason}
use Rattle.qs_packet.specs.Grammar.{Part, ATag, SpellsPart, SpellsParts, reply_parts, cause_parts, reason_parts, message_parts}
use Rattle.qs_packet.specs.declared.message.Message.{Message}
use Rattle.qs_record.specs.declared.fault.RecordFault.{RecordFault}
use Rattle.qs_packet.specs.Reading.{TakesPart, TakesParts, TakesBehind}
use Rattle.qs_record.proofs.Readers.{takes_none, takes_joined}

-- ---- taken

pub no_part : (a : Reading) → TakesParts [] a a
no_part a = record { taken = takes_none (SpellsParts []) a refl }

pub first_part : {p : Part} {ps : List Part} {a b c : Reading} → TakesPart p a b → TakesParts ps b c → TakesParts (p ∷ ps) a c
first_part {p} {ps} {a} {b} {c} one others = record { taken = takes_joined (SpellsPart p) (SpellsParts ps) a b c one.taken others.taken }

pub one_part : {p : Part} {a b : Reading} → TakesPart p a b → TakesParts (p ∷ []) a b
one_part {p} {a} {b} one = first_part one (no_part b)

-- behind a tag

pub behind_none : {tag : ℕ} {a : Reading} → TakesBehind tag (ATag tag ∷ []) a a
behind_none {tag} {a} = record { others = []; tagged = refl; taken = no_part a }

behind : {tag : ℕ} {ps : List Part} {a b : Reading} → TakesParts ps a b → TakesBehind tag (ATag tag ∷ ps) a b
behind {tag} {ps} taken = record { others = ps; tagged = refl; taken = taken }

pub behind_one : {tag : ℕ} {p : Part} {a b : Reading} → TakesPart p a b → TakesBehind tag (ATag tag ∷ p ∷ []) a b
behind_one one = behind (one_part one)

pub behind_two : {tag : ℕ} {p q : Part} {a b c : Reading} → TakesPart p a b → TakesPart q b c → TakesBehind tag (ATag tag ∷ p ∷ q ∷ []) a c
behind_two one two = behind (first_part one (one_part two))

pub behind_three : {tag : ℕ} {p q r : Part} {a b c d : Reading} → TakesPart p a b → TakesPart q b c → TakesPart r c d
    → TakesBehind tag (ATag tag ∷ p ∷ q ∷ r ∷ []) a d
behind_three one two three = behind (first_part one (first_part two (one_part three)))

pub behind_one_more : {tag : ℕ} {p : Part} {ps : List Part} {a b c : Reading} → TakesPart p a b → TakesParts ps b c → TakesBehind tag (ATag tag ∷ p ∷ ps) a c
behind_one_more one others = behind (first_part one others)

pub behind_three_more : {tag : ℕ} {p q r : Part} {ps : List Part} {a b c d e : Reading} → TakesPart p a b → TakesPart q b c → TakesPart r c d
    → TakesParts ps d e → TakesBehind tag (ATag tag ∷ p ∷ q ∷ r ∷ ps) a e
behind_three_more one two three others = behind (first_part one (first_part two (first_part three others)))

pub behind_six : {tag : ℕ} {p q r s t u : Part} {a b c d e f g : Reading} → TakesPart p a b → TakesPart q b c → TakesPart r c d
    → TakesPart s d e → TakesPart t e f → TakesPart u f g → TakesBehind tag (ATag tag ∷ p ∷ q ∷ r ∷ s ∷ t ∷ u ∷ []) a g
behind_six one two three four five six = behind (first_part one (first_part two (first_part three (first_part four (first_part five (one_part six))))))

pub seven_more : {p q r s t u v : Part} {ps : List Part} {a b c d e f g h i : Reading} → TakesPart p a b → TakesPart q b c → TakesPart r c d
    → TakesPart s d e → TakesPart t e f → TakesPart u f g → TakesPart v g h → TakesParts ps h i
    → TakesParts (p ∷ q ∷ r ∷ s ∷ t ∷ u ∷ v ∷ ps) a i
seven_more one two three four five six seven others =
    first_part one (first_part two (first_part three (first_part four (first_part five (first_part six (first_part seven others))))))

-- a tag and what stands behind it

tagged : {tag : ℕ} {ps : List Part} {a b c : Reading} → TakesPart (ATag tag) a b → TakesBehind tag ps b c → TakesParts ps a c
tagged one others = rw others.tagged (first_part one others.taken)

pub reply_answered : (tag : ℕ) (result : Result Reply RecordFault) (a b c : Reading) → TakesPart (ATag tag) a b → IfOk result (λ reply. TakesBehind tag (reply_parts reply) b c)
    → IfOk result (λ reply. TakesParts (reply_parts reply) a c)
reply_answered tag (Ok reply) a b c one others = tagged one others
reply_answered tag (Err e) a b c one others = tt

pub cause_answered : (tag : ℕ) (result : Result Cause RecordFault) (a b c : Reading) → TakesPart (ATag tag) a b → IfOk result (λ cause. TakesBehind tag (cause_parts cause) b c)
    → IfOk result (λ cause. TakesParts (cause_parts cause) a c)
cause_answered tag (Ok cause) a b c one others = tagged one others
cause_answered tag (Err e) a b c one others = tt

pub reason_answered : (tag : ℕ) (result : Result Reason RecordFault) (a b c : Reading) → TakesPart (ATag tag) a b → IfOk result (λ reason. TakesBehind tag (reason_parts reason) b c)
    → IfOk result (λ reason. TakesParts (reason_parts reason) a c)
reason_answered tag (Ok reason) a b c one others = tagged one others
reason_answered tag (Err e) a b c one others = tt

pub message_answered : (tag : ℕ) (result : Result Message RecordFault) (a b c : Reading) → TakesPart (ATag tag) a b → IfOk result (λ message. TakesBehind tag (message_parts message) b c)
    → IfOk result (λ message. TakesParts (message_parts message) a c)
message_answered tag (Ok message) a b c one others = tagged one others
message_answered tag (Err e) a b c one others = tt

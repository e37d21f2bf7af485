use Rattle.std.proofs.Common.{◌≡◌, ℕ, List, ◌⊎◌, Some, Result, Ok, Err, arith}
use Rattle.echo_text.specs.{declared.fault.TextFault.TextFault, declared.fault.TextFault.TheVariants.Memory, Echo.EchoText, Echo.IsEcho, Echo.TextOf, Refusal.TextAnswers, Refusal.text_refusal}
use Rattle.echo_text.proofs.{OneReading.one_answer, SaidAfter.not_refused, Written.written_read_back}

pub written_is_read : (e : EchoText) (text : List ℕ) (r : Result (EchoText × ℕ) TextFault) → IsEcho e → TextOf e text → TextAnswers text r
    → (r ≡ Ok (e, 0)) ⊎ (r ≡ Err Memory)
written_is_read e text r h w answers = one_answer text e 0 r (written_read_back e text h w) answers

pub refused_is_answered : (text : List ℕ) (fault : TextFault) (r : Result (EchoText × ℕ) TextFault) → text_refusal text ≡ Some fault → TextAnswers text r → r ≡ Err fault
refused_is_answered text fault r h1 h2 = grind (arith, not_refused)

pub readers_agree : (text : List ℕ) (r s : Result (EchoText × ℕ) TextFault) → TextAnswers text r → TextAnswers text s
    → (r ≡ s) ⊎ ((r ≡ Err Memory) ⊎ (s ≡ Err Memory))
readers_agree text r s h1 h2 = grind (arith, one_answer, refused_is_answered)

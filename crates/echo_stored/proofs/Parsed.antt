use Rattle.std.proofs.Common.{◌≡◌, ℕ, List, Some, Result, Ok, Err, refl, sym}
use Rattle.echo_addr.specs.{declared.address.Address.Address, declared.fault.AddrFault.AddrFault, Address.AddressOf, Address.outcome, Address.refusal}
use Rattle.echo_addr.proofs.Outcomes.{outcome-written, outcome_refused}

pub parsed : (word : List ℕ) (r : Result Address AddrFault) → ((a : Address) → r ≡ Ok a → AddressOf word a)
    → ((f : AddrFault) → r ≡ Err f → refusal word ≡ Some f) → r ≡ outcome word
parsed word (Ok a) ok err = sym (outcome-written word a (ok a refl))
parsed word (Err f) ok err = outcome_refused word f (err f refl)

-- A trace has no content at run time, with any calls in it.
use Rattle.std.proofs.Common.{List, [], ◌∷◌, refl}
use seplogic.Ra.Ura.{Ura}
use mir.Val.{Val, vstruct, vnil}
use types.Logic.{Logic}
use types.Kit.{Goal, Item, ‵, Step}
use denote.Shadow.{pure_i}
use Rattle.disk_system.specs.{declared.trace.Trace.Trace, contracts.trace.Trace.the_row}

abbrev pub silence : Val
silence = vstruct vnil

module _ {M : Type 1} {𝓤 : Ura M} {𝓛 : Logic 𝓤} {K : Type 0} {Γ : List (Item 𝓤)} {G : Goal 𝓤 𝓛.H} where
  pub breaks_silence : K → (trace : Trace) → Step K 𝓛 (‵ (the_row.own_val trace (silence ∷ [])) ∷ Γ) G Γ G
  breaks_silence k trace = pure_i k (the_row.own_val trace (silence ∷ [])) ((λ parts. (tt, tt)), tt) ((tt, (refl, tt)), tt)

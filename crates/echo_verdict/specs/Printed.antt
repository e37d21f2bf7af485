-- The printed form of a fault.
use Rattle.std.specs.{Prelude.ℕ, Prelude.List, Prelude.◌++◌, Prelude.codes, List.flat_map}
use Rattle.echo_addr.specs.{declared.address.Address.Address, Address.address_text}
use Rattle.echo_verdict.specs.declared.verdict.NetFault.{TheVariants.{NoSuchArea, TwoFiles, SelfLink, Unknown, OneSided, SameNetNode, Apart, Loop}, NetFault}

-- An address after a blank.
abbrev pub after_blank : Address → List ℕ
after_blank a = codes " " ++ address_text a

-- The number and name of the fault, and its addresses.
abbrev pub fault_text : NetFault → List ℕ
fault_text NoSuchArea = codes "V1 NoSuchArea"
fault_text (TwoFiles a) = codes "V2 TwoFiles" ++ after_blank a
fault_text (SelfLink a) = codes "V3 SelfLink" ++ after_blank a
fault_text (Unknown a b) = codes "V4 Unknown" ++ (after_blank a ++ after_blank b)
fault_text (OneSided a b) = codes "V5 OneSided" ++ (after_blank a ++ after_blank b)
fault_text (SameNetNode a b) = codes "V6 SameNetNode" ++ (after_blank a ++ after_blank b)
fault_text (Apart a b) = codes "V7 Apart" ++ (after_blank a ++ after_blank b)
fault_text (Loop round) = codes "V8 Loop" ++ flat_map after_blank round

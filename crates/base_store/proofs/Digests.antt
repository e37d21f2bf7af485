use Rattle.std.proofs.Common.{◌≡◌, ℕ, List, refl, Option, Some, None}
use Rattle.echo_text.specs.Echo.{msgid_of}
use Rattle.echo_filed.specs.Filed.{Filed, key_of, key_with}
use Rattle.base_store.specs.Keys.{digested, digested_key, digested_with}

by_id_or_content : (m : Filed) (id : Option (List ℕ)) → digested_with m id ≡ digested_key (key_with m id)
by_id_or_content m None = refl
by_id_or_content m (Some id) = refl

pub of_key : (m : Filed) → digested m ≡ digested_key (key_of m)
unfolding key_of
of_key m = by_id_or_content m (msgid_of m.echo.kept)

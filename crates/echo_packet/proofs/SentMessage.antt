use Rattle.std.proofs.Common.{◌≡◌, ℕ, List, ◌++◌, Option, Result, Ok, Err, ap, subst}
use Rattle.std.specs.Result.{IsErrAnd}
use Rattle.disk_io.specs.Device.{SendsAll, SendsFront, Sends}
use Rattle.disk_io.proofs.Devices.{SendsAll-then, SendsAll-front, SendsFront-more}
use Rattle.echo_packet.specs.Message.{Message, ToName, FromName, Subject, Text, before, zero_ended, message_bytes}

pub Sends-at_err : {E A : Type 0} (a b : Option (List ℕ)) (r : Result A E) (bs : List ℕ) (n m : ℕ) (Q : E → Type 0)
    → IsErrAnd r Q → SendsFront a b bs n m → Sends a b r bs n m
Sends-at_err a b (Ok x) bs n m Q is part = absurd is
Sends-at_err a b (Err e) bs n m Q is part = part

pub Sends-behind : {E A : Type 0} (a b c : Option (List ℕ)) (r : Result A E) (bs cs : List ℕ) (n m k : ℕ) → SendsAll a b bs n m → Sends b c r cs m k → Sends a c r (bs ++ cs) n k
Sends-behind a b c (Ok x) bs cs n m k first second = SendsAll-then a b c bs cs n m k first second
Sends-behind a b c (Err e) bs cs n m k first second = SendsAll-front a b c bs cs n m k first second

pub SendsAll-as : (a b : Option (List ℕ)) (bs cs : List ℕ) (n m : ℕ) → bs ≡ cs → SendsAll a b bs n m → SendsAll a b cs n m
SendsAll-as a b bs cs n m e all = subst (λ l. SendsAll a b l n m) e all

pub SendsFront-as : (a b : Option (List ℕ)) (bs cs : List ℕ) (n m : ℕ) → bs ≡ cs → SendsFront a b bs n m → SendsFront a b cs n m
SendsFront-as a b bs cs n m e part = subst (λ l. SendsFront a b l n m) e part

pub string_sent : (a b c : Option (List ℕ)) (bs s t : List ℕ) (n m k : ℕ) → SendsAll a b bs n m → s ≡ t → SendsAll b c (zero_ended s) m k → SendsAll a c (bs ++ zero_ended t) n k
string_sent a b c bs s t n m k first e second = SendsAll-then a b c bs (zero_ended t) n m k first (SendsAll-as b c (zero_ended s) (zero_ended t) m k (ap zero_ended e) second)

pub string_part : (a b c : Option (List ℕ)) (bs s t : List ℕ) (n m k : ℕ) → SendsAll a b bs n m → s ≡ t → SendsFront b c (zero_ended s) m k → SendsFront a c (bs ++ zero_ended t) n k
string_part a b c bs s t n m k first e second = SendsAll-front a b c bs (zero_ended t) n m k first (SendsFront-as b c (zero_ended s) (zero_ended t) m k (ap zero_ended e) second)

pub part-subject : (a b : Option (List ℕ)) (m : Message) (n k : ℕ) → SendsFront a b (before Text m) n k → SendsFront a b (message_bytes m) n k
part-subject a b m n k part = SendsFront-more a b (before Text m) (zero_ended m.text) n k part

pub part-from_name : (a b : Option (List ℕ)) (m : Message) (n k : ℕ) → SendsFront a b (before Subject m) n k → SendsFront a b (message_bytes m) n k
part-from_name a b m n k part = part-subject a b m n k (SendsFront-more a b (before Subject m) (zero_ended m.subject) n k part)

pub part-to_name : (a b : Option (List ℕ)) (m : Message) (n k : ℕ) → SendsFront a b (before FromName m) n k → SendsFront a b (message_bytes m) n k
part-to_name a b m n k part = part-from_name a b m n k (SendsFront-more a b (before FromName m) (zero_ended m.from_name) n k part)

pub part-fixed : (a b : Option (List ℕ)) (m : Message) (n k : ℕ) → SendsFront a b (before ToName m) n k → SendsFront a b (message_bytes m) n k
part-fixed a b m n k part = part-to_name a b m n k (SendsFront-more a b (before ToName m) (zero_ended m.to_name) n k part)

pub text_sent : {E A : Type 0} (a b c : Option (List ℕ)) (r : Result A E) (m : Message) (s : List ℕ) (n k j : ℕ)
    → SendsAll a b (before Text m) n k → s ≡ m.text → Sends b c r (zero_ended s) k j → Sends a c r (message_bytes m) n j
text_sent a b c r m s n k j first e last =
    Sends-behind a b c r (before Text m) (zero_ended m.text) n k j first (subst (λ l. Sends b c r (zero_ended l) k j) e last)

-- A message made flat and back is the same message.
use mathlib.Core.Path.{◌≡◌, refl}
use Rattle.octets.specs.Pick.{pick}
use Rattle.message.specs.Fields.{status_number, status_from}
use Rattle.message.specs.declared.Status.{Status}
use Rattle.message.specs.declared.Status.TheVariants.{AtOnce, Started, Done, Failed}
use Rattle.message.specs.declared.Message.{Message}
use Rattle.message.specs.declared.Message.TheVariants.{Nothing, CapabilityRequest, CapabilityResponse, MemoryRequest, MemoryResponse, VersionRequest, VersionResponse, ConfigurationRequest, ConfigurationResponse, Transfer, TransferResponse, ActivationCommand, PoolAcknowledgement, DeleteCommand, DeleteResponse, StoreCommand, StoreResponse, LoadCommand, LoadResponse, StateCommand, ClientAbort, Indication, IndicationResponse, Command, Answer, AnswerAcknowledgement}
use Rattle.flat.specs.Flat.{stated, message_from, BackAgain}

status_back : (t : Status) (m : Status → Message) → stated (status_number t) (m (status_from (status_number t))) ≡ m t
unfolding pick status_from
status_back AtOnce m = refl
status_back Started m = refl
status_back Done m = refl
status_back Failed m = refl

pub back_again : BackAgain
unfolding pick message_from
back_again Nothing l = refl
back_again (CapabilityRequest x) l = refl
back_again (CapabilityResponse x) l = refl
back_again (MemoryRequest x) l = refl
back_again (MemoryResponse x) l = refl
back_again VersionRequest l = refl
back_again (VersionResponse x) l = refl
back_again ConfigurationRequest l = refl
back_again (ConfigurationResponse x) l = refl
back_again Transfer l = refl
back_again (TransferResponse x) l = refl
back_again ActivationCommand l = refl
back_again (PoolAcknowledgement x y) l = refl
back_again (DeleteCommand x) l = refl
back_again (DeleteResponse x) l = refl
back_again StoreCommand l = refl
back_again (StoreResponse x) l = refl
back_again LoadCommand l = refl
back_again (LoadResponse x) l = refl
back_again (StateCommand x y) l = refl
back_again (ClientAbort x) l = refl
back_again (Indication x) l = status_back x.status (λ t. Indication (record { function = x.function; state = x.state; status = t; tan = x.tan; value = x.value }))
back_again (IndicationResponse x) l = status_back x.status (λ t. IndicationResponse (record { function = x.function; state = x.state; status = t; error = x.error; tan = x.tan }))
back_again (Command x) l = refl
back_again (Answer x) l = status_back x.status (λ t. Answer (record { function = x.function; state = x.state; status = t; error = x.error; tan = x.tan }))
back_again (AnswerAcknowledgement x) l = status_back x.status (λ t. AnswerAcknowledgement (record { function = x.function; state = x.state; status = t; tan = x.tan }))

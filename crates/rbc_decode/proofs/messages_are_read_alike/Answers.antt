use Rattle.rbc_decode.proofs.MessageAgreementLemmas.{messages_agree}
use Rattle.rbc_decode.proofs.MessageFieldsLemmas.{fields_are_those, words_are_those}
use Rattle.rbc_decode.proofs.messages_are_read_alike.Goals as goal

pub returns-clause-faults : goal.returns-clause-faults
returns-clause-faults c = messages_agree

pub returns-clause-fields : goal.returns-clause-fields
returns-clause-fields c = fields_are_those

pub returns-clause-words : goal.returns-clause-words
returns-clause-words c = words_are_those

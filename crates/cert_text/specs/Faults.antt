-- Faults of what is read and made, as those of a document.
use Rattle.cert_tree.specs.declared.faults.AssembleFault.{AssembleFault}
use Rattle.cert_tree.specs.declared.faults.AssembleFault.TheVariants as assemble
use Rattle.text_words.specs.declared.faults.ReadFault.{ReadFault}
use Rattle.text_words.specs.declared.faults.ReadFault.TheVariants as read
use Rattle.cert_text.specs.declared.faults.CertTextFault.{CertTextFault}
use Rattle.cert_text.specs.declared.faults.CertTextFault.TheVariants as certificate_text

-- a fault of a certificate's text
abbrev pub of_certificate_text : ReadFault → CertTextFault
of_certificate_text (read.Text fault) = certificate_text.Text fault
of_certificate_text read.Memory = certificate_text.Memory

-- a fault of the lemmas that a text has
abbrev pub of_assembly : AssembleFault → CertTextFault
of_assembly assemble.Memory = certificate_text.Memory
of_assembly fault = certificate_text.Assemble fault
